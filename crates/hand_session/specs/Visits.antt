-- How a session is added up: what a name does in one hand, and its row with one more hand.
use Rattle.std.specs.Prelude.{ℕ, ◌+◌, ◌*◌, ◌≤◌, ℤ, pos, ◌+ℤ◌, ◌-ℤ◌, ◌≤ℤ◌, ◌==◌, ◌&&◌, ◌||◌, Bool, List, [], ◌∷◌, ◌++◌, map, filter, fold, flat_map, sum_by, bytes_eq, if◌then◌else◌}
use Rattle.std.specs.List.{list_any}
use Rattle.chip_ledger.specs.declared.seat_row.TheConstants.{MOST_AMOUNT}
use Rattle.hand_session.specs.declared.player_sessions.PlayerSession.{PlayerSession}
use Rattle.hand_session.specs.declared.steps.Step.{Step}
use Rattle.hand_session.specs.declared.steps.StepKind.TheVariants as kinds
use Rattle.hand_session.specs.declared.visits.Visit.{Visit}
use Rattle.hand_session.specs.Hands.{Hand, Seated}
use Rattle.hand_session.specs.Sessions.{gap_step, is_named}

-- what the seats of a name did, in total
abbrev pub visit_among : List ℕ → List Seated → Visit
visit_among name seats =
    record {
      started = sum_by (λ seat. seat.started) (filter (is_named name) seats);
      finished = sum_by (λ seat. seat.finished) (filter (is_named name) seats);
      entered = list_any (λ seat. is_named name seat && seat.entered) seats;
      raised = list_any (λ seat. is_named name seat && seat.raised) seats;
      shown = list_any (λ seat. is_named name seat && seat.shown) seats;
      won = list_any (λ seat. is_named name seat && seat.won) seats;
    }

-- what a name does in a hand
abbrev pub visit_in : List ℕ → Hand → Visit
visit_in name hand = visit_among name hand.seats

-- a visit with one more seat
abbrev pub with_seat : Visit → Seated → Visit
with_seat visit seat =
    record {
      started = visit.started + seat.started;
      finished = visit.finished + seat.finished;
      entered = visit.entered || seat.entered;
      raised = visit.raised || seat.raised;
      shown = visit.shown || seat.shown;
      won = visit.won || seat.won;
    }

-- the row of a name that has not been seen yet
abbrev pub empty_session : List ℕ → PlayerSession
empty_session name =
    record {
      name = name;
      first = 0;
      gaps = pos 0;
      net = pos 0;
      last = 0;
      hands = 0;
      entered = 0;
      raised = 0;
      shown = 0;
      won = 0;
    }

-- a count, plus one if a test passes
abbrev pub counted : ℕ → Bool → ℕ
counted count test = if test then count + 1 else count

-- the gap of a name at a visit
abbrev pub gap_at : PlayerSession → Visit → ℤ
gap_at row visit = if row.hands == 0 then pos 0 else pos visit.started -ℤ pos row.last

-- a row with one more visit
abbrev pub with_visit : PlayerSession → Visit → PlayerSession
with_visit row visit =
    record {
      name = row.name;
      first = if row.hands == 0 then visit.started else row.first;
      gaps = row.gaps +ℤ gap_at row visit;
      net = row.net +ℤ (pos visit.finished -ℤ pos visit.started);
      last = visit.finished;
      hands = row.hands + 1;
      entered = counted row.entered visit.entered;
      raised = counted row.raised visit.raised;
      shown = counted row.shown visit.shown;
      won = counted row.won visit.won;
    }

-- the step of a visit in the hand with this number
abbrev pub visit_steps : ℕ → PlayerSession → Visit → List Step
visit_steps number row visit =
    if row.hands == 0
    then record { hand = number; name = row.name; kind = kinds.Join visit.started } ∷ []
    else gap_step number row.name (pos visit.started -ℤ pos row.last)

-- the names of rows
abbrev pub session_names : List PlayerSession → List (List ℕ)
session_names rows = map (λ row. row.name) rows

-- the row of a name among rows, or a new one
abbrev pub session_at : List PlayerSession → List ℕ → PlayerSession
session_at [] name = empty_session name
session_at (row ∷ rows) name = if bytes_eq name row.name then row else session_at rows name

-- rows with one more visit of a name
abbrev pub visit_seat : List PlayerSession → List ℕ → Visit → List PlayerSession
visit_seat [] name visit = with_visit (empty_session name) visit ∷ []
visit_seat (row ∷ rows) name visit =
    if bytes_eq name row.name then with_visit row visit ∷ rows else row ∷ visit_seat rows name visit

-- rows with a row for a name, a new one at the end if there is none
abbrev pub sessions_with : List PlayerSession → List ℕ → List PlayerSession
sessions_with rows name =
    if list_any (bytes_eq name) (session_names rows) then rows else rows ++ empty_session name ∷ []

-- rows with the visit of a name in a hand, unless one of these earlier seats has the name
abbrev pub after_seat : Hand → List Seated → List PlayerSession → List ℕ → List PlayerSession
after_seat hand before rows name =
    if list_any (is_named name) before then rows else visit_seat rows name (visit_in name hand)

-- the steps of a name in the hand with this number, unless one of these earlier seats has the name
abbrev pub steps_of_seat : ℕ → Hand → List Seated → List PlayerSession → List ℕ → List Step
steps_of_seat number hand before rows name =
    if list_any (is_named name) before
    then []
    else visit_steps number (session_at rows name) (visit_in name hand)

-- rows with the visits of these names in a hand
abbrev pub with_names : Hand → List PlayerSession → List (List ℕ) → List PlayerSession
with_names hand rows names =
    fold (λ so_far name. visit_seat so_far name (visit_in name hand)) rows names

-- the steps of these names in the hand with this number
abbrev pub steps_of_names : ℕ → Hand → List PlayerSession → List (List ℕ) → List Step
steps_of_names number hand rows names =
    flat_map (λ name. visit_steps number (session_at rows name) (visit_in name hand)) names

-- the most chips that all seats of a hand can have together
abbrev pub MOST_OF_HAND : ℕ
MOST_OF_HAND = 10 * MOST_AMOUNT

-- a signed number is at most this far from 0
pub record IsWithin (most : ℕ) (number : ℤ) : Type 0 where
  pub least : (pos 0 -ℤ pos most) ≤ℤ number
  pub greatest : number ≤ℤ pos most

-- a visit has at most the chips of one hand
pub record IsOfHand (visit : Visit) : Type 0 where
  pub started : visit.started ≤ MOST_OF_HAND
  pub finished : visit.finished ≤ MOST_OF_HAND

-- a row is of at most this number of hands
pub record IsOfHands (count : ℕ) (row : PlayerSession) : Type 0 where
  pub gaps : IsWithin (count * MOST_OF_HAND) row.gaps
  pub net : IsWithin (count * MOST_OF_HAND) row.net
  pub last : row.last ≤ MOST_OF_HAND
  pub hands : row.hands ≤ count
  pub entered : row.entered ≤ count
  pub raised : row.raised ≤ count
  pub shown : row.shown ≤ count
  pub won : row.won ≤ count
