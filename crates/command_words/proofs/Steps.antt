-- The options of words are those of the first option and of the words after it.
use Rattle.std.proofs.Common.{◌≡◌, ℕ, true, false, List, [], ◌∷◌, Some, None, refl}
use Rattle.clap.specs.Lexer.{long_of}
use Rattle.command_words.specs.GivenOptions.{GivenOptions, flags, names_flag, options_said, with_given, with_one_flag}

pub behind_joined : (options more : GivenOptions) (word name value : List ℕ) (words : List (List ℕ)) → long_of word ≡ Some (name, Some value)
    → with_given options name value ≡ Some more → options_said options (word ∷ words) ≡ options_said more words
unfolding options_said
behind_joined options more word name value [] is with = rw (is, with) refl
behind_joined options more word name value (other ∷ words) is with = rw (is, with) refl

pub behind_flag : (options more : GivenOptions) (word name : List ℕ) (words : List (List ℕ)) → long_of word ≡ Some (name, None)
    → names_flag name ≡ true → with_one_flag flags options name ≡ Some more → options_said options (word ∷ words) ≡ options_said more words
unfolding options_said
behind_flag options more word name [] is flag with = rw (is, flag, with) refl
behind_flag options more word name (other ∷ words) is flag with = rw (is, flag, with) refl

pub behind_apart : (options more : GivenOptions) (word name value : List ℕ) (words : List (List ℕ)) → long_of word ≡ Some (name, None)
    → names_flag name ≡ false → with_given options name value ≡ Some more → options_said options (word ∷ value ∷ words) ≡ options_said more words
unfolding options_said
behind_apart options more word name value words is plain with = rw (is, plain, with) refl

pub nothing_behind : (options : GivenOptions) (word name : List ℕ) → long_of word ≡ Some (name, None) → names_flag name ≡ false
    → options_said options (word ∷ []) ≡ None
unfolding options_said
nothing_behind options word name is plain = rw (is, plain) refl

-- words with an option that is repeated or unknown are no options
pub none_joined : (options : GivenOptions) (word name value : List ℕ) (words : List (List ℕ)) → long_of word ≡ Some (name, Some value)
    → with_given options name value ≡ None → options_said options (word ∷ words) ≡ None
unfolding options_said
none_joined options word name value [] is none = rw (is, none) refl
none_joined options word name value (other ∷ words) is none = rw (is, none) refl
