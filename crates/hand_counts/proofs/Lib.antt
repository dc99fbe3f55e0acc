pub mod DealtLaws
