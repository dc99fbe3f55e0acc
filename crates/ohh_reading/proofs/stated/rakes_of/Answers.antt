use Rattle.std.proofs.Common.{◌-◌, ◌∷◌, []}
use Rattle.chip_ledger.specs.declared.seat_row.TheConstants.{MOST_AMOUNT}
use Rattle.ohh_reading.proofs.stated.rakes_of.Goals as goal
use Rattle.card_set.proofs.Entries.{each_at}

pub returns-clause-most : goal.returns-clause-most
returns-clause-most c = λ pot. each_at MOST_AMOUNT (c.rake_or_zero.result ∷ c.rake_or_zero-2.result ∷ c.rake_or_zero-3.result ∷ c.rake_or_zero-4.result ∷ c.rake_or_zero-5.result ∷ c.rake_or_zero-6.result ∷ c.rake_or_zero-7.result ∷ c.rake_or_zero-8.result ∷ c.rake_or_zero-9.result ∷ c.rake_or_zero-10.result ∷ c.rake_or_zero-11.result ∷ []) (c.rake_or_zero.ensures.most, (c.rake_or_zero-2.ensures.most, (c.rake_or_zero-3.ensures.most, (c.rake_or_zero-4.ensures.most, (c.rake_or_zero-5.ensures.most, (c.rake_or_zero-6.ensures.most, (c.rake_or_zero-7.ensures.most, (c.rake_or_zero-8.ensures.most, (c.rake_or_zero-9.ensures.most, (c.rake_or_zero-10.ensures.most, (c.rake_or_zero-11.ensures.most, tt))))))))))) (pot - 1)
