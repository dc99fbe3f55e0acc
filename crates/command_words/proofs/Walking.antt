-- The parser's walk over an option, whose value is in its word or in the next, over a flag, and
-- over a first word: what it settles, and that it takes them.
use Rattle.std.proofs.Common.{◌≡◌, Bool, true, false, List, [], ◌∷◌, Option, Some, None, refl, ap, subst}
use Rattle.std.specs.Bool.{Decides}
use Rattle.std.specs.Str.{bytes_eq}
use Rattle.std.proofs.lemmas.Slice.Eq.{bytes_eq-Decides}
use Rattle.clap.specs.Lexer.{long_of, short_of, strip_byte}
use Rattle.clap.specs.Simple.{Shape}
use Rattle.clap.specs.Takes.{settle_passes, turn_passes, use_passes}
use Rattle.clap.specs.Walk.{Row, Rule, Text, Walk, arg_by_id, arg_by_index, arg_by_long, has_row, idle, is_multiple, most_values, settled_rows, takes_values, used, walked}

-- A walk is between two options, with these rows settled.
pub record IsBetween (rules : List Rule) (walk : Walk) (settled : List Row) : Type 0 where
  pub idle : walk.waiting ≡ idle
  pub reading : walk.is_trailing ≡ false
  pub here : walk.stopped ≡ None
  pub rows : settled_rows rules walk.held.pending walk.held.rows ≡ settled
  pub passes : settle_passes rules false walk.held ≡ true

-- An argument takes one value, and is found by its long name and its id.
pub record IsOption (rules : List Rule) (name : Text) (argument : Rule) : Type 0 where
  pub by_name : arg_by_long rules name ≡ Some argument
  pub by_id : arg_by_id rules argument.id ≡ Some argument
  pub takes : takes_values argument ≡ true
  pub most : most_values argument ≡ 1
  pub own : bytes_eq argument.id argument.id ≡ true
  pub once : (value : Text) (rows : List Row) → has_row argument.id rows ≡ false → use_passes false argument (value ∷ []) rows ≡ true

-- An argument takes no value, and is found by its long name.
pub record IsFlag (rules : List Rule) (name : Text) (argument : Rule) : Type 0 where
  pub by_name : arg_by_long rules name ≡ Some argument
  pub takes : takes_values argument ≡ false
  pub once : (rows : List Row) → has_row argument.id rows ≡ false → use_passes false argument [] rows ≡ true

-- the word of an option is more than two hyphens
not_alone : (word : Text) (name : Text) (value : Option Text) → long_of word ≡ Some (name, value) → bytes_eq word (45 ∷ 45 ∷ []) ≡ false
not_alone word name value is = go (bytes_eq word (45 ∷ 45 ∷ [])) (bytes_eq-Decides word (45 ∷ 45 ∷ []))
  where
    alone : word ≡ 45 ∷ 45 ∷ [] → ⊥
    alone e = let none : long_of (45 ∷ 45 ∷ []) ≡ Some (name, value) = subst (λ (text : Text). long_of text ≡ Some (name, value)) e is in cc

    go : (b : Bool) → Decides b (word ≡ 45 ∷ 45 ∷ []) → b ≡ false
    go false d = refl
    go true d = absurd (alone (d.0 refl))

-- and so is a word that does not begin with a hyphen
not_hyphens : (word : Text) → strip_byte 45 word ≡ None → bytes_eq word (45 ∷ 45 ∷ []) ≡ false
not_hyphens word is = go (bytes_eq word (45 ∷ 45 ∷ [])) (bytes_eq-Decides word (45 ∷ 45 ∷ []))
  where
    alone : word ≡ 45 ∷ 45 ∷ [] → ⊥
    alone e = let none : strip_byte 45 (45 ∷ 45 ∷ []) ≡ None = subst (λ (text : Text). strip_byte 45 text ≡ None) e is in cc

    go : (b : Bool) → Decides b (word ≡ 45 ∷ 45 ∷ []) → b ≡ false
    go false d = refl
    go true d = absurd (alone (d.0 refl))

-- the rows after an option whose value is in its word is settled
pub joined : (rules : List Rule) (walk : Walk) (rows : List Row) (word name value : Text) (argument : Rule) → IsBetween rules walk rows
    → IsOption rules name argument → long_of word ≡ Some (name, Some value) → IsBetween rules (walked rules [] walk word) (used argument (value ∷ []) rows)
unfolding walked
joined rules walk rows word name value argument between option is =
    rw (between.here, between.idle, between.reading, not_alone word name (Some value) is, is, option.by_name, option.takes, between.rows)
    (record { idle = refl; reading = refl; here = refl; rows = refl; passes = refl })

-- the rows after a flag is settled
pub alone : (rules : List Rule) (walk : Walk) (rows : List Row) (word name : Text) (argument : Rule) → IsBetween rules walk rows
    → IsFlag rules name argument → long_of word ≡ Some (name, None) → IsBetween rules (walked rules [] walk word) (used argument [] rows)
unfolding walked
alone rules walk rows word name argument between flag is =
    rw (between.here, between.idle, between.reading, not_alone word name None is, is, flag.by_name, flag.takes, between.rows)
    (record { idle = refl; reading = refl; here = refl; rows = refl; passes = refl })

-- it is not an option either
not_long : (word : Text) → strip_byte 45 word ≡ None → long_of word ≡ None
not_long word is = rw is refl

not_short : (word : Text) → strip_byte 45 word ≡ None → short_of word ≡ None
not_short word is = rw is refl

-- the rows after an option whose value is the next word is settled
pub apart : (rules : List Rule) (walk : Walk) (rows : List Row) (word name value : Text) (argument : Rule) → IsBetween rules walk rows
    → IsOption rules name argument → has_row argument.id rows ≡ false → long_of word ≡ Some (name, None) → strip_byte 45 value ≡ None
    → IsBetween rules (walked rules [] (walked rules [] walk word) value) (used argument (value ∷ []) rows)
unfolding walked
apart rules walk rows word name value argument between option new is plain =
    rw (
      between.here,
      between.idle,
      between.reading,
      not_alone word name None is,
      is,
      option.by_name,
      option.takes,
      not_hyphens value plain,
      not_long value plain,
      not_short value plain,
      option.by_id,
      option.own,
      option.most,
      between.rows,
    )
    (record { idle = refl; reading = refl; here = refl; rows = rw option.by_id refl; passes = rw option.by_id (option.once value rows new) })

-- the rows after a first word is settled as the value of the argument at the first place
pub first : (rules : List Rule) (walk : Walk) (rows : List Row) (word : Text) (argument : Rule) → IsBetween rules walk rows
    → walk.position ≡ 1 → strip_byte 45 word ≡ None → arg_by_index rules 1 ≡ Some argument → arg_by_id rules argument.id ≡ Some argument
    → is_multiple argument ≡ false → argument.trailing_var_arg ≡ false → walk.held.pending ≡ None → use_passes false argument (word ∷ []) rows ≡ true
    → IsBetween rules (walked rules [] walk word) (used argument (word ∷ []) rows)
unfolding walked
first rules walk rows word argument between place plain by_index by_id once here none once_used =
    rw (
      between.here,
      between.idle,
      between.reading,
      not_hyphens word plain,
      not_long word plain,
      not_short word plain,
      place,
      by_index,
      none,
      once,
      here,
    )
    (record {
      idle = refl;
      reading = refl;
      here = refl;
      rows = rw by_id (ap (used argument (word ∷ [])) settled);
      passes = rw (by_id, settled) once_used;
    })
  where
    settled : walk.held.rows ≡ rows
    settled = subst (λ (pending : Option (Text × List Text)). settled_rows rules pending walk.held.rows ≡ rows) none between.rows

-- the parser takes the word of an option whose value is in it
pub joined_taken : (shape : Shape) (walk : Walk) (rows : List Row) (word name value : Text) (argument : Rule) → shape.args_override_self ≡ false
    → IsBetween shape.rules walk rows → IsOption shape.rules name argument → has_row argument.id rows ≡ false
    → long_of word ≡ Some (name, Some value) → turn_passes shape [] walk word ≡ true
joined_taken shape walk rows word name value argument keeps between option new is =
    rw (
      between.here,
      between.idle,
      between.reading,
      not_alone word name (Some value) is,
      is,
      option.by_name,
      option.takes,
      keeps,
      between.passes,
      between.rows,
      option.once value rows new,
    ) refl

-- and that of a flag
pub alone_taken : (shape : Shape) (walk : Walk) (rows : List Row) (word name : Text) (argument : Rule) → shape.args_override_self ≡ false
    → IsBetween shape.rules walk rows → IsFlag shape.rules name argument → has_row argument.id rows ≡ false
    → long_of word ≡ Some (name, None) → turn_passes shape [] walk word ≡ true
alone_taken shape walk rows word name argument keeps between flag new is =
    rw (
      between.here,
      between.idle,
      between.reading,
      not_alone word name None is,
      is,
      flag.by_name,
      flag.takes,
      keeps,
      between.passes,
      between.rows,
      flag.once rows new,
    ) refl

-- and that of an option whose value is the next word
pub option_taken : (shape : Shape) (walk : Walk) (rows : List Row) (word name : Text) (argument : Rule) → shape.args_override_self ≡ false
    → IsBetween shape.rules walk rows → IsOption shape.rules name argument → long_of word ≡ Some (name, None)
    → turn_passes shape [] walk word ≡ true
option_taken shape walk rows word name argument keeps between option is =
    rw (
      between.here,
      between.idle,
      between.reading,
      not_alone word name None is,
      is,
      option.by_name,
      option.takes,
      keeps,
      between.passes,
    ) refl

-- and that value
pub value_taken : (shape : Shape) (walk : Walk) (rows : List Row) (word name value : Text) (argument : Rule)
    → IsBetween shape.rules walk rows → IsOption shape.rules name argument → long_of word ≡ Some (name, None) → strip_byte 45 value ≡ None
    → turn_passes shape [] (walked shape.rules [] walk word) value ≡ true
unfolding walked
value_taken shape walk rows word name value argument between option is plain =
    rw (
      between.here,
      between.idle,
      between.reading,
      not_alone word name None is,
      is,
      option.by_name,
      option.takes,
      not_hyphens value plain,
      not_long value plain,
      not_short value plain,
    ) refl

-- and a first word, as the value of the argument at the first place
pub first_taken : (shape : Shape) (walk : Walk) (rows : List Row) (word : Text) (argument : Rule)
    → IsBetween shape.rules walk rows → walk.position ≡ 1 → strip_byte 45 word ≡ None → arg_by_index shape.rules 1 ≡ Some argument
    → walk.held.pending ≡ None → turn_passes shape [] walk word ≡ true
first_taken shape walk rows word argument between place plain by_index none =
    rw (
      between.here,
      between.idle,
      between.reading,
      not_hyphens word plain,
      not_long word plain,
      not_short word plain,
      place,
      by_index,
      none,
    ) refl
