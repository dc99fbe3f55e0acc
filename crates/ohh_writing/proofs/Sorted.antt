-- Members that are put one after the other are in the order of their names.
use Rattle.std.proofs.Common.{◌≡◌, ℕ, List, codes, Option, Some, None, decimal, unwrap_or, refl}
use Rattle.serde_json.specs.Data.{Data, Members, member, no_members, put, string}
use Rattle.chip_ledger.specs.SeatRow.{amount_of}
use Rattle.play_event.specs.declared.setup.Setup.{Setup}
use Rattle.hand_canon.specs.declared.notes.Notes.{Notes}
use Rattle.hand_canon.specs.declared.trace.Trace.{Trace}
use Rattle.ohh_members.specs.declared.dialect.Dialect.{Dialect}
use Rattle.hand_canon.specs.declared.notes.Moment.{Moment}
use Rattle.ohh_writing.specs.Actions.{PlainDetail, Nothing, Chips, Cards, seat_of_small_blind}
use Rattle.ohh_writing.specs.Games.{game_word}
use Rattle.ohh_writing.specs.Moment.{moment_of}
use Rattle.ohh_writing.specs.Rounds.{hand_rounds}
use Rattle.ohh_writing.specs.Seating.{number_among}
use Rattle.ohh_writing.specs.Spelled.{big_blind, greatest_ante}
use Rattle.ohh_writing.specs.Tree.{date_member, detail_members, hand_members, limit_tree, list, numbers_written, players, pots, round_trees, table_size, text_or_empty, whole, with_date, with_detail}

-- the members of an action, whatever its details
pub action_sorted : (n : ℕ) (word : List ℕ) (player : ℕ) (detail : PlainDetail)
    → put (codes "player_id") (whole player) (with_detail detail (member (codes "action") (string word) (member (codes "action_number") (whole n) no_members)))
    ≡ member (codes "action") (string word) (member (codes "action_number") (whole n) (detail_members detail (member (codes "player_id") (whole player) no_members)))
action_sorted n word player Nothing = refl
action_sorted n word player (Chips amount all_in) = refl
action_sorted n word player (Cards cards) = refl

-- the members of a hand, whatever their values
pub members_sorted : (said : Option Moment) (ante bet big currency dealer number game version players pots rounds site small spec name size : Data)
    → with_date said
    (put (codes "spec_version") spec (put (codes "internal_version") version
    (put (codes "rounds") rounds (put (codes "pots") pots
    (put (codes "table_name") name (put (codes "site_name") site (put (codes "game_number") number (put (codes "currency") currency
    (put (codes "table_size") size (put (codes "players") players (put (codes "dealer_seat") dealer
    (put (codes "small_blind_amount") small (put (codes "big_blind_amount") big (put (codes "ante_amount") ante (put (codes "bet_limit") bet (put (codes "game_type") game no_members))))))))))))))))
    ≡ member (codes "ante_amount") ante
    (member (codes "bet_limit") bet
    (member (codes "big_blind_amount") big
    (member (codes "currency") currency
    (member (codes "dealer_seat") dealer
    (member (codes "game_number") number
    (member (codes "game_type") game
    (member (codes "internal_version") version
    (member (codes "players") players
    (member (codes "pots") pots
    (member (codes "rounds") rounds
    (member (codes "site_name") site
    (member (codes "small_blind_amount") small
    (member (codes "spec_version") spec
    (date_member said
    (member (codes "table_name") name
    (member (codes "table_size") size no_members))))))))))))))))
members_sorted None ante bet big currency dealer number game version players pots rounds site small spec name size = refl
members_sorted (Some moment) ante bet big currency dealer number game version players pots rounds site small spec name size = refl

-- ---- the members of a hand, as they are put

abbrev pub with_setup : Setup → Members → Members
with_setup setup members =
    put (codes "small_blind_amount") (whole (amount_of setup.blinds (seat_of_small_blind setup)))
    (put (codes "big_blind_amount") (whole (big_blind setup))
    (put (codes "ante_amount") (whole (greatest_ante setup))
    (put (codes "bet_limit") (limit_tree setup)
    (put (codes "game_type") (string (game_word setup.code)) members))))

abbrev pub with_seating : Setup → Notes → Members → Members
with_seating setup notes members =
    put (codes "table_size") (whole (table_size setup notes))
    (put (codes "players") (players setup.stacks notes (numbers_written setup notes))
    (put (codes "dealer_seat") (whole (number_among (numbers_written setup notes) setup.stacks.seats)) members))

abbrev pub with_names : ℕ → Notes → Members → Members
with_names place notes members =
    put (codes "table_name") (text_or_empty notes.table)
    (put (codes "site_name") (text_or_empty notes.venue)
    (put (codes "game_number") (string (unwrap_or notes.hand (decimal place)))
    (put (codes "currency") (text_or_empty notes.currency) members)))

abbrev pub with_play : Dialect → Trace → Members → Members
with_play dialect trace members =
    put (codes "rounds") (list (round_trees 1 (hand_rounds dialect trace))) (put (codes "pots") (pots trace) members)

abbrev pub with_versions : Members → Members
with_versions members = put (codes "spec_version") (string (codes "1.4.6")) (put (codes "internal_version") (string (codes "1")) members)

-- put one after the other they are the members of the hand
pub hand_sorted : (dialect : Dialect) (place : ℕ) (trace : Trace) (notes : Notes)
    → with_date (moment_of notes) (with_versions (with_play dialect trace (with_names place notes (with_seating trace.setup notes (with_setup trace.setup no_members)))))
    ≡ hand_members dialect place trace notes
hand_sorted dialect place trace notes =
    let setup = trace.setup in
    members_sorted (moment_of notes) (whole (greatest_ante setup)) (limit_tree setup) (whole (big_blind setup)) (text_or_empty notes.currency)
    (whole (number_among (numbers_written setup notes) setup.stacks.seats)) (string (unwrap_or notes.hand (decimal place))) (string (game_word setup.code)) (string (codes "1"))
    (players setup.stacks notes (numbers_written setup notes)) (pots trace) (list (round_trees 1 (hand_rounds dialect trace))) (text_or_empty notes.venue)
    (whole (amount_of setup.blinds (seat_of_small_blind setup))) (string (codes "1.4.6")) (text_or_empty notes.table) (whole (table_size setup notes))
