-- Settings that are made one after the other.
use Rattle.std.proofs.Common.{◌≡◌, ℕ, ◌+◌, ◌<◌, ◌≤◌, List, [], ◌∷◌, length, drop, get_or, sym, ap, ◌∙◌, refl}
use Rattle.std.proofs.lemmas.List.{drop_more, drop_all}
use Rattle.mls_start_text.specs.Texts.{SaidFile}
use Rattle.mls_settings.specs.Settings.{set_all, set_file}
use Rattle.mls_settings.specs.declared.setting.Setting.{Setting}

set_none : (file : SaidFile) → set_all file [] ≡ file
unfolding set_all
set_none file = refl

set_first : (file : SaidFile) (c : Setting) (rest : List Setting) → set_all file (c ∷ rest) ≡ set_all (set_file file c) rest
unfolding set_all
set_first file c rest = refl

-- one more is made
pub set_more : (now new whole : SaidFile) (settings : List Setting) (n : ℕ) (d : Setting) → n < length settings → new ≡ set_file now (get_or settings n d)
    → set_all now (drop n settings) ≡ whole → set_all new (drop (n + 1) settings) ≡ whole
set_more now new whole settings n d below made so_far =
    ap (λ file. set_all file (drop (n + 1) settings)) made ∙ sym (set_first now (get_or settings n d) (drop (n + 1) settings))
    ∙ sym (ap (set_all now) (drop_more settings n d below)) ∙ so_far

-- all are made
pub set_done : (now whole : SaidFile) (settings : List Setting) (n : ℕ) → length settings ≤ n → set_all now (drop n settings) ≡ whole → now ≡ whole
set_done now whole settings n all so_far = sym (ap (set_all now) (drop_all n settings all) ∙ set_none now) ∙ so_far
