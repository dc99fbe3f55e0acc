mod BadugiAlike
mod BestRainbow
mod RainbowCards
mod RainbowRanks
mod SuitRanks
mod TakenRanks
mod Taking
