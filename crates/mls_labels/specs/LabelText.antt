-- Label text: how a label is spelled in the names of a scheme.
use Rattle.std.specs.Prelude.{◌≡◌, ◌<◌, ◌↔◌, ℕ, IsTrue, List, [], ◌∷◌, ◌++◌, map, Some, slice_get, unwrap_or}
use Rattle.std.specs.Ordering.{nat_cmp}
use Rattle.std.specs.List.{list_all}
use Rattle.std.specs.FinSet as set
use Rattle.std.proofs.Common.{◌⊎◌}
use Rattle.mls_labels.specs.Ascending.{ascending}
use Rattle.mls_labels.specs.Label.{Label}
use Rattle.mls_labels.specs.Names.{is_name, is_name_byte}
use Rattle.mls_labels.specs.Scheme.{Scheme}
use Rattle.mls_labels.specs.declared.label_fault.LabelFault.{LabelFault}
use Rattle.mls_labels.specs.declared.label_fault.LabelFault.TheVariants.{BadForm, UnknownLevel, UnknownCategory}
use Rattle.mls_labels.specs.declared.label_fault.LabelFault.TheVariants.{RepeatedCategory}

-- The text is these words with a comma between each two, by cases on the text: it ends, a comma ends the first word,
-- or a byte of a name begins it. (own)
abbrev pub AreWords : List ℕ → List (List ℕ) → Type 0
AreWords [] words = words ≡ [] ∷ []
AreWords (b ∷ text) words =
    ((b ≡ 44) × (rest : List (List ℕ)) × (words ≡ [] ∷ rest) × AreWords text rest)
    ⊎ (IsTrue (is_name_byte b) × (first : List ℕ) × (rest : List (List ℕ)) × (words ≡ (b ∷ first) ∷ rest)
    × AreWords text (first ∷ rest))

-- The text is the word of a level alone, or that word, a colon and words of categories, by cases on the text: it ends,
-- a colon ends the level, or a byte of a name begins it. (own)
abbrev pub IsSplit : List ℕ → List ℕ → List (List ℕ) → Type 0
IsSplit [] level categories = (level ≡ []) × (categories ≡ [])
IsSplit (b ∷ text) level categories =
    ((b ≡ 58) × (level ≡ []) × AreWords text categories)
    ⊎ (IsTrue (is_name_byte b) × (first : List ℕ) × (level ≡ b ∷ first) × IsSplit text first categories)

-- A text has the form of a label text: it is split so, and each of the words is a name. (own)
pub record IsForm (text level : List ℕ) (categories : List (List ℕ)) : Type 0 where
  pub split : IsSplit text level categories
  pub level_is_name : IsTrue (is_name level)
  pub each_is_name : IsTrue (list_all is_name categories)

-- The word is one of these. (own)
abbrev pub IsIn : List (List ℕ) → List ℕ → Type 0
IsIn words word = (i : ℕ) × (slice_get words i ≡ Some word)

-- Each word is one of the names. (own)
abbrev pub AllIn : List (List ℕ) → List (List ℕ) → Type 0
AllIn names words = (word : List ℕ) → IsIn words word → IsIn names word

-- One of the words isn't one of the names. (own)
abbrev pub SomeNotIn : List (List ℕ) → List (List ℕ) → Type 0
SomeNotIn names words = (word : List ℕ) × IsIn words word × (IsIn names word → ⊥)

-- A word stands twice. (own)
abbrev pub Repeats : List (List ℕ) → Type 0
Repeats words = (i j : ℕ) × (word : List ℕ) × (i < j) × (slice_get words i ≡ Some word)
    × (slice_get words j ≡ Some word)

-- The set has just the places of the words among the names. (own)
abbrev pub HasJust : List (List ℕ) → List (List ℕ) → set.FinSet nat_cmp → Type 0
HasJust names words s = (n : ℕ) → IsTrue (set.contains s n)
    ↔ ((word : List ℕ) × (slice_get names n ≡ Some word) × IsIn words word)

-- A text spells a label in a scheme: it has the form, the level's name stands in the place of the label's level, the
-- categories are known and none stands twice, and the label has just theirs. The order of the categories is free. (own)
pub record Spells (s : Scheme) (text : List ℕ) (l : Label) : Type 0 where
  pub level : List ℕ
  pub categories : List (List ℕ)
  pub form : IsForm text level categories
  pub named : slice_get s.levels l.level ≡ Some level
  pub known : AllIn s.categories categories
  pub once : Repeats categories → ⊥
  pub just : HasJust s.categories categories l.categories

-- When each fault comes: its own condition holds, and those of the faults before it don't. (own)
abbrev pub IsRefused : Scheme → List ℕ → LabelFault → Type 0
-- the text isn't of the form
IsRefused s text BadForm = (level : List ℕ) (categories : List (List ℕ)) → IsForm text level categories → ⊥
-- it is, and the level isn't known
IsRefused s text UnknownLevel = (level : List ℕ) × (categories : List (List ℕ)) × IsForm text level categories
    × (IsIn s.levels level → ⊥)
-- the level is known, and some category isn't
IsRefused s text UnknownCategory =
    (level : List ℕ) × (categories : List (List ℕ)) × IsForm text level categories × IsIn s.levels level
    × SomeNotIn s.categories categories
-- all are known, and some category stands twice
IsRefused s text RepeatedCategory =
    (level : List ℕ) × (categories : List (List ℕ)) × IsForm text level categories × IsIn s.levels level
    × AllIn s.categories categories × Repeats categories

-- The name in a place. (own)
abbrev pub name_at : List (List ℕ) → ℕ → List ℕ
name_at names n = unwrap_or (slice_get names n) []

-- The names after this byte, with commas between them; nothing where there is no name. (own)
abbrev pub words_after : ℕ → List (List ℕ) → List ℕ
words_after separator [] = []
words_after separator (name ∷ names) = separator ∷ name ++ words_after 44 names

-- What is written of a label: the level's name, and after a colon the categories' names, ascending by number. (own)
abbrev pub written : Scheme → Label → List ℕ
written s l = name_at s.levels l.level ++ words_after 58 (map (name_at s.categories) (ascending l.categories))

-- The new text is the old one and more. (own)
abbrev pub Extends : List ℕ → List ℕ → Type 0
Extends old new = (more : List ℕ) × (new ≡ old ++ more)
