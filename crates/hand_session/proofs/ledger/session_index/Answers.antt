-- A place after all rows is that of a new name; otherwise the name has a row.
use Rattle.std.proofs.Common.{◌≡◌, ◌≢◌, ℕ, ◌++◌, List, [], ◌∷◌, length, Bool, true, false, bytes_eq, Some, refl, sym, ap, subst, ◌∙◌, arith}
use Rattle.std.specs.List.{list_any, position_from}
use Rattle.std.proofs.lemmas.List.{length-map}
use Rattle.printed_hands.specs.Indexed.{AreIndexed}
use Rattle.printed_hands.specs.Names.{with_name}
use Rattle.printed_hands.proofs.Placed.{known_place, last_place}
use Rattle.hand_session.specs.declared.player_sessions.PlayerSession.{PlayerSession}
use Rattle.hand_session.specs.Visits.{session_names, sessions_with}
use Rattle.hand_session.proofs.RowPlaces.{known_rows, names_with, new_rows}
use Rattle.hand_session.proofs.ledger.session_index.Goals as goal

-- a name whose place is after all rows is new, and one whose place is among them is not
behind : (name : List ℕ) (rows : List PlayerSession) (place : ℕ) (b : Bool) → list_any (bytes_eq name) (session_names rows) ≡ b
    → position_from (bytes_eq name) 0 (with_name (session_names rows) name) ≡ Some place → place ≡ length rows → b ≡ false
behind name rows place true known at end =
    absurd (omega (arith, known_place name (session_names rows) place known at, end, length-map rows (λ (row : PlayerSession). row.name)))
behind name rows place false missing at end = refl

among : (name : List ℕ) (rows : List PlayerSession) (place : ℕ) (b : Bool) → list_any (bytes_eq name) (session_names rows) ≡ b
    → position_from (bytes_eq name) 0 (with_name (session_names rows) name) ≡ Some place → place ≢ length rows → b ≡ true
among name rows place true known at other = refl
among name rows place false missing at other =
    absurd (other (last_place name (session_names rows) place missing at ∙ length-map rows (λ (row : PlayerSession). row.name)))

module _ (c : goal.In_ok-try_push) where
  abbrev rows : List PlayerSession
  rows = c.args.ledger.now.rows.items

  abbrev name : List ℕ
  name = c.args.name.now

  many : length (session_names rows) ≡ c.len-rows.result
  many = omega (arith, length-map rows (λ (row : PlayerSession). row.name), c.len-rows.ensures)

  placed : position_from (bytes_eq name) 0 (with_name (session_names rows) name) ≡ Some c.in_ok-place.place
  placed = c.in_ok-place.ensures.place (session_names rows) c.requires.names many

  missing : list_any (bytes_eq name) (session_names rows) ≡ false
  missing = behind name rows c.in_ok-place.place (list_any (bytes_eq name) (session_names rows)) refl placed (omega (arith, c.if-place-rows.true, c.len-rows.ensures))

  pushed : c.try_push.new.self.items ≡ sessions_with rows name
  pushed = c.in_ok-try_push.ensures.items ∙ ap (λ (row : PlayerSession). rows ++ row ∷ []) c.in_ok-new_session.ensures ∙ sym (new_rows rows name missing)

pub returns-in_ok-try_push-clause-names : goal.returns-in_ok-try_push-clause-names
returns-in_ok-try_push-clause-names c =
    subst (AreIndexed c.place_of.new.self)
    (sym (names_with (rows c) (name c)) ∙ ap session_names (sym (pushed c)))
    (c.in_ok-place.ensures.names (session_names (rows c)) c.requires.names (many c))

pub returns-in_ok-try_push-clause-rows : goal.returns-in_ok-try_push-clause-rows
returns-in_ok-try_push-clause-rows c = pushed c

pub returns-in_ok-try_push-clause-place : goal.returns-in_ok-try_push-clause-place
returns-in_ok-try_push-clause-place c =
    ap (λ l. position_from (bytes_eq (name c)) 0 (session_names l)) (pushed c)
    ∙ ap (position_from (bytes_eq (name c)) 0) (names_with (rows c) (name c))
    ∙ placed c

module _ (c : goal.Else-place-rows) where
  abbrev old : List PlayerSession
  old = c.args.ledger.now.rows.items

  abbrev asked : List ℕ
  asked = c.args.name.now

  all : length (session_names old) ≡ c.len-rows.result
  all = omega (arith, length-map old (λ (row : PlayerSession). row.name), c.len-rows.ensures)

  found : position_from (bytes_eq asked) 0 (with_name (session_names old) asked) ≡ Some c.in_ok-place.place
  found = c.in_ok-place.ensures.place (session_names old) c.requires.names all

  known : list_any (bytes_eq asked) (session_names old) ≡ true
  known = among asked old c.in_ok-place.place (list_any (bytes_eq asked) (session_names old)) refl found (λ same. c.if-place-rows.false (omega (arith, same, c.len-rows.ensures)))

  same_rows : sessions_with old asked ≡ old
  same_rows = known_rows old asked known

pub returns-else-place-rows-clause-names : goal.returns-else-place-rows-clause-names
returns-else-place-rows-clause-names c =
    subst (AreIndexed c.place_of.new.self)
    (sym (names_with (old c) (asked c)) ∙ ap session_names (same_rows c))
    (c.in_ok-place.ensures.names (session_names (old c)) c.requires.names (all c))

pub returns-else-place-rows-clause-rows : goal.returns-else-place-rows-clause-rows
returns-else-place-rows-clause-rows c = sym (same_rows c)

pub returns-else-place-rows-clause-place : goal.returns-else-place-rows-clause-place
returns-else-place-rows-clause-place c =
    ap (λ l. position_from (bytes_eq (asked c)) 0 (session_names l)) (sym (same_rows c))
    ∙ ap (position_from (bytes_eq (asked c)) 0) (names_with (old c) (asked c))
    ∙ found c
