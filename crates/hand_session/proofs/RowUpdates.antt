-- Rows are found by their names, before and after visits.
use Rattle.std.proofs.Common.{◌≡◌, ℕ, ◌||◌, Bool, true, false, cond, List, [], ◌∷◌, ◌++◌, map, fold, bytes_eq, refl, sym, ap, subst, ◌∙◌}
use Rattle.std.specs.Cmp.Lexicographic.{bytes_decides}
use Rattle.std.specs.List.{list_any}
use Rattle.std.proofs.lemmas.Bool.{or_parts, true≢false}
use Rattle.std.proofs.lemmas.List.{append-nil}
use Rattle.std.proofs.lemmas.List.Concat.{flat_map-append}
use Rattle.std.proofs.lemmas.List.Sums.{fold-append}
use Rattle.card_set.proofs.Bytes.{same_bytes}
use Rattle.printed_hands.specs.Names.{with_name}
use Rattle.printed_hands.proofs.Placed.{with_known, with_new}
use Rattle.hand_session.specs.declared.player_sessions.PlayerSession.{PlayerSession}
use Rattle.hand_session.specs.declared.visits.Visit.{Visit}
use Rattle.hand_session.specs.Hands.{Hand, Seated}
use Rattle.hand_session.specs.Sessions.{is_named, names_among}
use Rattle.hand_session.specs.Visits.{after_seat, session_at, session_names, steps_of_names, steps_of_seat, visit_in, visit_seat, visit_steps, with_names, with_visit}
use Rattle.printed_hands.proofs.Distinct.{AreDistinct, bytes_flip}
use Rattle.hand_session.proofs.SeatNames.{any_names, names_more}
use Rattle.hand_session.proofs.RowPlaces.{names_after}

-- the rows after a visit: the name has it, and the others have what they had
pub at_row : (rows : List PlayerSession) (name : List ℕ) (visit : Visit) (asked : List ℕ)
    → session_at (visit_seat rows name visit) asked ≡ cond (bytes_eq asked name) (with_visit (session_at rows name) visit) (session_at rows asked)
at_row [] name visit asked = refl
at_row (row ∷ rows) name visit asked = by (bytes_eq name row.name) refl (at_row rows name visit asked)
  where
    twice : (b : Bool) (x y z : PlayerSession) → cond b x z ≡ cond b x (cond b y z)
    twice true x y z = refl
    twice false x y z = refl

    apart : (p q : Bool) (x y z : PlayerSession) → (p ≡ true → q ≡ true → y ≡ x) → cond p y (cond q x z) ≡ cond q x (cond p y z)
    apart true true x y z same = same refl refl
    apart true false x y z same = refl
    apart false q x y z same = refl

    by : (b : Bool) → bytes_eq name row.name ≡ b
        → session_at (visit_seat rows name visit) asked ≡ cond (bytes_eq asked name) (with_visit (session_at rows name) visit) (session_at rows asked)
        → session_at (cond b (with_visit row visit ∷ rows) (row ∷ visit_seat rows name visit)) asked
        ≡ cond (bytes_eq asked name) (with_visit (cond b row (session_at rows name)) visit) (cond (bytes_eq asked row.name) row (session_at rows asked))
    by true same later =
        twice (bytes_eq asked row.name) (with_visit row visit) row (session_at rows asked)
        ∙ ap (λ text. cond (bytes_eq asked text) (with_visit row visit) (cond (bytes_eq asked row.name) row (session_at rows asked))) (sym ((bytes_decides name row.name).0 same))
    by false other later =
        ap (λ found. cond (bytes_eq asked row.name) row found) later
        ∙ apart (bytes_eq asked row.name) (bytes_eq asked name) (with_visit (session_at rows name) visit) row (session_at rows asked)
        (λ first second. absurd (true≢false (sym (subst (λ text. bytes_eq text row.name ≡ true) ((bytes_decides asked name).0 second) first) ∙ other)))

-- a name keeps its row if none of the visits is its own
pub at_others : (hand : Hand) (rows : List PlayerSession) (names : List (List ℕ)) (asked : List ℕ) → list_any (bytes_eq asked) names ≡ false
    → session_at (with_names hand rows names) asked ≡ session_at rows asked
at_others hand rows [] asked none = refl
at_others hand rows (name ∷ names) asked none =
    let parts = or_parts (bytes_eq asked name) (list_any (bytes_eq asked) names) none in
    at_others hand (visit_seat rows name (visit_in name hand)) names asked parts.1
    ∙ at_row rows name (visit_in name hand) asked
    ∙ ap (λ (b : Bool). cond b (with_visit (session_at rows name) (visit_in name hand)) (session_at rows asked)) parts.0

-- and a name that is among different ones has one more visit
pub at_names : (hand : Hand) (rows : List PlayerSession) (names : List (List ℕ)) (asked : List ℕ) → AreDistinct names
    → session_at (with_names hand rows names) asked ≡ cond (list_any (bytes_eq asked) names) (with_visit (session_at rows asked) (visit_in asked hand)) (session_at rows asked)
at_names hand rows [] asked distinct = refl
at_names hand rows (name ∷ names) asked distinct =
    by (bytes_eq asked name) refl (at_names hand (visit_seat rows name (visit_in name hand)) names asked distinct.1)
  where
    by : (b : Bool) → bytes_eq asked name ≡ b
        → session_at (with_names hand (visit_seat rows name (visit_in name hand)) names) asked
        ≡ cond (list_any (bytes_eq asked) names) (with_visit (session_at (visit_seat rows name (visit_in name hand)) asked) (visit_in asked hand)) (session_at (visit_seat rows name (visit_in name hand)) asked)
        → session_at (with_names hand (visit_seat rows name (visit_in name hand)) names) asked
        ≡ cond (b || list_any (bytes_eq asked) names) (with_visit (session_at rows asked) (visit_in asked hand)) (session_at rows asked)
    by true same later =
        let is : asked ≡ name = (bytes_decides asked name).0 same in
        at_others hand (visit_seat rows name (visit_in name hand)) names asked (subst (λ text. list_any (bytes_eq text) names ≡ false) (sym is) distinct.0)
        ∙ at_row rows name (visit_in name hand) asked
        ∙ ap (λ (b : Bool). cond b (with_visit (session_at rows name) (visit_in name hand)) (session_at rows asked)) same
        ∙ ap (λ text. with_visit (session_at rows text) (visit_in text hand)) (sym is)
    by false other later =
        let kept : session_at (visit_seat rows name (visit_in name hand)) asked ≡ session_at rows asked =
        at_row rows name (visit_in name hand) asked ∙ ap (λ (b : Bool). cond b (with_visit (session_at rows name) (visit_in name hand)) (session_at rows asked)) other in
        later ∙ ap (λ row. cond (list_any (bytes_eq asked) names) (with_visit row (visit_in asked hand)) row) kept

-- the names of rows with visits
pub names_of_rows : (hand : Hand) (rows : List PlayerSession) (names : List (List ℕ)) → session_names (with_names hand rows names) ≡ fold with_name (session_names rows) names
names_of_rows hand rows [] = refl
names_of_rows hand rows (name ∷ names) =
    names_of_rows hand (visit_seat rows name (visit_in name hand)) names
    ∙ ap (λ l. fold with_name l names) (names_after rows name (visit_in name hand))

-- rows of different names are those that are found by them
pub found_rows : (rows : List PlayerSession) → AreDistinct (session_names rows) → rows ≡ map (session_at rows) (session_names rows)
found_rows [] distinct = refl
found_rows (row ∷ rows) distinct =
    ap (λ (found : PlayerSession). found ∷ rows) (sym (ap (λ (b : Bool). cond b row (session_at rows row.name)) (same_bytes row.name)))
    ∙ ap (λ l. session_at (row ∷ rows) row.name ∷ l) (found_rows rows distinct.1 ∙ passed (session_names rows) distinct.0)
  where
    passed : (names : List (List ℕ)) → list_any (bytes_eq row.name) names ≡ false → map (session_at rows) names ≡ map (session_at (row ∷ rows)) names
    passed [] none = refl
    passed (name ∷ names) none =
        let parts = or_parts (bytes_eq row.name name) (list_any (bytes_eq row.name) names) none in
        ap (λ (found : PlayerSession). found ∷ map (session_at rows) names) (sym (ap (λ (b : Bool). cond b row (session_at rows name)) (bytes_flip row.name name false parts.0)))
        ∙ ap (λ l. session_at (row ∷ rows) name ∷ l) (passed names parts.1)

-- one more seat: its name has a visit, unless a seat before has it
pub rows_more : (hand : Hand) (rows : List PlayerSession) (seats : List Seated) (seat : Seated)
    → after_seat hand seats (with_names hand rows (names_among seats)) seat.name ≡ with_names hand rows (names_among (seats ++ seat ∷ []))
rows_more hand rows seats seat = by (list_any (is_named seat.name) seats) refl
  where
    by : (b : Bool) → list_any (is_named seat.name) seats ≡ b
        → after_seat hand seats (with_names hand rows (names_among seats)) seat.name ≡ with_names hand rows (names_among (seats ++ seat ∷ []))
    by true known =
        ap (λ (b : Bool). cond b (with_names hand rows (names_among seats)) (visit_seat (with_names hand rows (names_among seats)) seat.name (visit_in seat.name hand))) known
        ∙ ap (with_names hand rows) (sym (names_more seats seat ∙ with_known seat.name (names_among seats) (any_names seat.name seats ∙ known)))
    by false missing =
        ap (λ (b : Bool). cond b (with_names hand rows (names_among seats)) (visit_seat (with_names hand rows (names_among seats)) seat.name (visit_in seat.name hand))) missing
        ∙ sym (fold-append (λ so_far name. visit_seat so_far name (visit_in name hand)) rows (names_among seats) (seat.name ∷ []))
        ∙ ap (with_names hand rows) (sym (names_more seats seat ∙ with_new seat.name (names_among seats) (any_names seat.name seats ∙ missing)))

pub steps_more : (number : ℕ) (hand : Hand) (rows : List PlayerSession) (seats : List Seated) (seat : Seated)
    → steps_of_names number hand rows (names_among seats) ++ steps_of_seat number hand seats (with_names hand rows (names_among seats)) seat.name
    ≡ steps_of_names number hand rows (names_among (seats ++ seat ∷ []))
steps_more number hand rows seats seat = by (list_any (is_named seat.name) seats) refl
  where
    by : (b : Bool) → list_any (is_named seat.name) seats ≡ b
        → steps_of_names number hand rows (names_among seats) ++ steps_of_seat number hand seats (with_names hand rows (names_among seats)) seat.name
        ≡ steps_of_names number hand rows (names_among (seats ++ seat ∷ []))
    by true known =
        ap (λ (b : Bool). steps_of_names number hand rows (names_among seats) ++ cond b [] (visit_steps number (session_at (with_names hand rows (names_among seats)) seat.name) (visit_in seat.name hand))) known
        ∙ append-nil (steps_of_names number hand rows (names_among seats))
        ∙ ap (steps_of_names number hand rows) (sym (names_more seats seat ∙ with_known seat.name (names_among seats) (any_names seat.name seats ∙ known)))
    by false missing =
        ap (λ (b : Bool). steps_of_names number hand rows (names_among seats) ++ cond b [] (visit_steps number (session_at (with_names hand rows (names_among seats)) seat.name) (visit_in seat.name hand))) missing
        ∙ ap (λ row. steps_of_names number hand rows (names_among seats) ++ visit_steps number row (visit_in seat.name hand)) (at_others hand rows (names_among seats) seat.name (any_names seat.name seats ∙ missing))
        ∙ ap (λ l. steps_of_names number hand rows (names_among seats) ++ l) (sym (append-nil (visit_steps number (session_at rows seat.name) (visit_in seat.name hand))))
        ∙ sym (flat_map-append (λ name. visit_steps number (session_at rows name) (visit_in name hand)) (names_among seats) (seat.name ∷ []))
        ∙ ap (steps_of_names number hand rows) (sym (names_more seats seat ∙ with_new seat.name (names_among seats) (any_names seat.name seats ∙ missing)))
