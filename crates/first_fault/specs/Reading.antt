-- Reading in a fixed order: a value, or the first fault.
use Rattle.std.specs.Prelude.{◌≡◌, ℕ, ◌+◌, List, [], ◌∷◌, ◌++◌, Option, Some, None, Result, Ok, Err}
use Rattle.first_fault.specs.declared.stop.ReadError.{ReadError}
use Rattle.first_fault.specs.declared.stop.ReadError.TheVariants as read_errors

-- reads one thing and then the next; the first fault stops
infixl 10 ◌>>=◌
abbrev pub ◌>>=◌ : {A B F : Type 0} → Result A F → (A → Result B F) → Result B F
(Ok x) >>= next = next x
(Err fault) >>= next = Err fault

-- a reader that stopped reports the fault of the definition, unless memory ran out
abbrev pub Fails : {F Y : Type 0} → ReadError F → Result Y F → Type 0
Fails (read_errors.Memory memory) reading = Unit {0}
Fails (read_errors.Fault fault) reading = reading ≡ Err fault

-- the result of a reader, seen by a view, is what the definition says, unless memory ran out
abbrev pub Gives : {F X Y : Type 0} → (X → Y) → Result X (ReadError F) → Result Y F → Type 0
Gives view (Ok x) reading = reading ≡ Ok (view x)
Gives view (Err stop) reading = Fails stop reading

-- what may be missing, read in this form if it is there
abbrev pub read_if : {F D A : Type 0} → (D → Result A F) → Option D → Result (Option A) F
read_if form None = Ok None
read_if form (Some item) = form item >>= λ x. Ok (Some x)

-- the same, in a form that may give nothing
abbrev pub or_none : {F D A : Type 0} → (D → Result (Option A) F) → Option D → Result (Option A) F
or_none form None = Ok None
or_none form (Some item) = form item

-- items one after another, the first of which has this number, each read in a form that is given
-- its number
unfoldable pub each_from : {F D A : Type 0} → (ℕ → D → Result A F) → ℕ → List D → Result (List A) F
each_from form n [] = Ok []
each_from form n (item ∷ rest) =
    form n item >>= λ x. each_from form (n + 1) rest >>= λ xs. Ok (x ∷ xs)

-- the same, where each item adds to what is found and passes a count on
unfoldable pub thread_from : {F D A S : Type 0} → (S → ℕ → D → Result (List A × S) F) → S → ℕ
    → List D → Result (List A × S) F
thread_from form counts n [] = Ok ([], counts)
thread_from form counts n (item ∷ rest) =
    form counts n item
    >>= λ found.
    thread_from form found.1 (n + 1) rest >>= λ others. Ok (found.0 ++ others.0, others.1)

-- items one after another, the first of which has this index, each added to what was read before it
unfoldable pub added_from : {F D S : Type 0} → (S → ℕ → D → Result S F) → S → ℕ → List D
    → Result S F
added_from form before index [] = Ok before
added_from form before index (item ∷ rest) =
    form before index item >>= λ after. added_from form after (index + 1) rest

-- a reader stopped because memory was refused
abbrev pub IsOutOfMemory : {F : Type 0} → ReadError F → Type 0
IsOutOfMemory (read_errors.Memory memory) = Unit {0}
IsOutOfMemory (read_errors.Fault fault) = ⊥
