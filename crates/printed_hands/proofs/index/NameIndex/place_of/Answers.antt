-- A name that is found is among the names, and a new one is added after them.
use Rattle.std.proofs.Common.{◌≡◌, ℕ, List, length, Some, false, true, cond, bytes_eq, string_bytes, ap, sym, ◌∙◌, subst}
use Rattle.std.specs.BTreeMap.{get_by_text}
use Rattle.std.specs.Option.{option_copied}
use Rattle.std.specs.List.{list_any, position_from}
use Rattle.std.proofs.lemmas.Map.Text.{btree_map_updates_text}
use Rattle.printed_hands.specs.Indexed.{AreIndexed}
use Rattle.printed_hands.proofs.Placed.{indexed_more, new_place, placed, unplaced, with_known, with_new}
use Rattle.printed_hands.proofs.index.NameIndex.place_of.Goals as goal
use Rattle.printed_hands.proofs.index.NameIndex.place_of.Goals.{In_ok-try_insert}

-- a name that is found
module _ (c : goal.After-row_known-1) (names : List (List ℕ)) (are : AreIndexed c.args.self.now names) where
  abbrev name : List ℕ
  name = c.args.name.now

  found : position_from (bytes_eq name) 0 names ≡ Some c.in-Some.place.now
  found = sym (are name) ∙ sym c.get.ensures.value ∙ ap option_copied c.in-Some.is

  known : list_any (bytes_eq name) names ≡ true
  known = placed name names 0 c.in-Some.place.now found

pub returns-in-Some-clause-names : goal.returns-in-Some-clause-names
returns-in-Some-clause-names c = λ names are counted.
    subst (AreIndexed c.args.self.now) (sym (with_known (name c names are) names (known c names are))) are

pub returns-in-Some-clause-place : goal.returns-in-Some-clause-place
returns-in-Some-clause-place c = λ names are counted.
    ap (position_from (bytes_eq (name c names are)) 0) (with_known (name c names are) names (known c names are)) ∙ found c names are

-- a new name
module _ (c : In_ok-try_insert) (names : List (List ℕ)) (are : AreIndexed c.args.self.now names) (counted : length names ≡ c.args.others) where
  abbrev asked : List ℕ
  asked = c.args.name.now

  missing : list_any (bytes_eq asked) names ≡ false
  missing = unplaced asked names 0 (sym (are asked) ∙ sym c.get.ensures.value ∙ ap option_copied c.in_default.is)

  updates : (other : List ℕ) → get_by_text c.try_insert.new.self other ≡ cond (bytes_eq asked other) (Some c.args.others) (get_by_text c.args.self.now.places other)
  updates other =
      btree_map_updates_text (string_bytes c.in_ok-name.name) c.args.self.now.places c.try_insert.new.self _ c.in_ok-try_insert.ensures.updates other
      ∙ ap (λ (text : List ℕ). cond (bytes_eq text other) (Some c.args.others) (get_by_text c.args.self.now.places other)) c.in_ok-name.ensures.ok

pub returns-clause-names : goal.returns-clause-names
returns-clause-names c = λ names are counted.
    subst (λ (all : List (List ℕ)). (other : List ℕ) → get_by_text c.try_insert.new.self other ≡ position_from (bytes_eq other) 0 all)
    (sym (with_new (asked c names are counted) names (missing c names are counted)))
    (indexed_more (get_by_text c.args.self.now.places) (get_by_text c.try_insert.new.self) names (asked c names are counted) c.args.others
    are (missing c names are counted) counted (updates c names are counted))

pub returns-clause-place : goal.returns-clause-place
returns-clause-place c = λ names are counted.
    ap (position_from (bytes_eq (asked c names are counted)) 0) (with_new (asked c names are counted) names (missing c names are counted))
    ∙ new_place (asked c names are counted) names (missing c names are counted)
    ∙ ap (λ (n : ℕ). Some n) counted
