-- The word of a setting, from its parts.
use Rattle.std.proofs.Common.{◌≡◌, ℕ, List, ◌∷◌, ◌++◌, Some, Bor, sym, ap, ◌∙◌, arith}
use Rattle.std.proofs.lemmas.List.{append_assoc}
use Rattle.std.proofs.lemmas.Str.Pattern.{IsSplitOnceResult, split_parts}
use Rattle.mls_requests.proofs.WordTables.{word_written}
use Rattle.mls_settings.specs.Settings.{all_members, member_word, read_member, setting_word}
use Rattle.mls_settings.specs.declared.setting.Member.{Member}

-- a word is split at its first dot, and what is behind that at its first equals sign
pub split_word : (word : List ℕ) (name rest member value : Bor (List ℕ)) (m : Member) → IsSplitOnceResult 46 word (Some (name, rest))
    → IsSplitOnceResult 61 rest.now (Some (member, value)) → read_member member.now ≡ Some m
    → word ≡ setting_word (record { name = name; member = m; value = value })
split_word word name rest member value m first second is =
    let dot = split_parts 46 word (Some (name, rest)) first (omega arith) in
    let equals = split_parts 61 rest.now (Some (member, value)) second (omega arith) in
    dot.0 ∙ ap (λ t. name.now ++ 46 ∷ t) (equals.0 ∙ ap (λ t. t ++ 61 ∷ value.now) (word_written member_word all_members member.now m is))
    ∙ sym (append_assoc name.now (46 ∷ member_word m) (61 ∷ value.now))
