-- What is due street by street, what legal play keeps, and where a contested hand ends.

-- Words for what is due next, street by street.
pub mod Dues
pub mod Walk
pub mod Done
pub mod CardEvents
pub mod Groups
-- What a legal past guarantees about its streets and the places of its cards; and events with their
-- actors named.
pub mod PastLaws
pub mod LegalPlaces
pub mod Spellings
-- What is on the table when a contested hand ends.
pub mod ContestedEnd
