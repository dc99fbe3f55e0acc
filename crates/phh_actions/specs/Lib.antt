-- How an action is written in the Poker Hand History format: its words, their event, and the text
-- of an event.
pub mod Words
pub mod Action
pub mod Written
