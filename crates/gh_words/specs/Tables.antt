-- What a step leaves of plain words: this is changed, and all else is as before.
use Rattle.std.specs.Prelude.{◌+◌, ◌-◌, ℕ, nat_lt, slice_set, if◌then◌else◌}
use Rattle.gh_base.specs.declared.cap_word.CapWord.{CapWord}
use Rattle.gh_words.specs.Shows.{cap_place}
use Rattle.gh_words.specs.declared.plain_words.TheConstants.{SLOT_WORDS}
use Rattle.gh_words.specs.declared.plain_words.PlainWords.{PlainWords}
use Rattle.gh_words.specs.declared.plain_words.ReferenceWord.{ReferenceWord}

-- another word of a slot that there is
abbrev pub with_cap : PlainWords → ℕ → ℕ → CapWord → PlainWords
with_cap words space slot word = record words {
  caps =
      if nat_lt slot SLOT_WORDS then slice_set words.caps (cap_place space slot) word
      else words.caps;
}

-- another reference word at an index
abbrev pub with_reference : PlainWords → ℕ → ReferenceWord → PlainWords
with_reference words at word =
    record words { references = slice_set words.references at word }

-- a word that counts one more, and one less
abbrev pub one_more : ReferenceWord → ReferenceWord
one_more word = record word { count = word.count + 1 }

abbrev pub one_less : ReferenceWord → ReferenceWord
one_less word = record word { count = word.count - 1 }

-- another counter of a CPU
abbrev pub with_counter : PlainWords → ℕ → ℕ → PlainWords
with_counter words cpu counter =
    record words { counters = slice_set words.counters cpu counter }

-- another last place
abbrev pub with_place : PlainWords → ℕ → ℕ → PlainWords
with_place words cpu place = record words { places = slice_set words.places cpu place }
