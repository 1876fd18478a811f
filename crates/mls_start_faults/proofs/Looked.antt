-- What becomes of what was found and seen, item by item.
use Rattle.std.proofs.Common.{◌≡◌, ℕ, suc, ◌+◌, ◌<◌, Bool, true, false, not, List, [], ◌∷◌, ◌++◌, codes, map, length, take, get_or, Result, refl, ap, sym, ◌∙◌, arith}
use Rattle.std.specs.Prelude.{OnOk, if◌then◌else◌}
use Rattle.std.specs.List.{list_any}
use Rattle.std.specs.Str.{bytes_eq}
use Rattle.std.proofs.lemmas.Bool.{not-false}
use Rattle.std.proofs.lemmas.List.{length-map, length-take-le, map_more}
use Rattle.std.proofs.lemmas.Result.{on_ok_weaker}
use Rattle.mls_start_faults.specs.Permissions.{Looked, by_each, looked_at}
use Rattle.mls_start_faults.specs.Places.{Located, Wrong, located, on_item}

-- with one item more at the end
pub by_each_last : {A : Type 0} (step : ℕ → A → Looked → Looked) (n : ℕ) (items : List A) (a : A) (s : Looked) → by_each step n (items ++ a ∷ []) s ≡ step (n + length items) a (by_each step n items s)
by_each_last step n [] a s = let e : n + 0 ≡ n = omega arith in rw e refl
by_each_last step n (b ∷ items) a s =
    let e : suc n + length items ≡ n + suc (length items) = omega arith in
    by_each_last step (suc n) items a (step n b s) ∙ ap (λ m. step m a (by_each step (suc n) items (step n b s))) e

-- the first items of a list that is seen by a view, and the next
pub one_more_step : {X A : Type 0} (v : X → A) (step : ℕ → A → Looked → Looked) (xs : List X) (k : ℕ) (d : X) (start before after : Looked) → k < length xs
    → before ≡ by_each step 0 (map v (take k xs)) start → after ≡ step k (v (get_or xs k d)) before → after ≡ by_each step 0 (map v (take (k + 1) xs)) start
one_more_step v step xs k d start before after within so done =
    let count : length (map v (take k xs)) ≡ k = length-map (take k xs) v ∙ length-take-le k xs (omega (arith, within)) in
    let place : k ≡ 0 + length (map v (take k xs)) = omega (arith, count) in
    done ∙ ap (step k (v (get_or xs k d))) so
    ∙ ap (λ i. step i (v (get_or xs k d)) (by_each step 0 (map v (take k xs)) start)) place
    ∙ sym (by_each_last step 0 (map v (take k xs)) (v (get_or xs k d)) start)
    ∙ ap (λ items. by_each step 0 items start) (sym (map_more v xs k d within))

-- a text that was seen is looked at: its place is added, and no text
pub seen_before : {A B : Type 0} (r : Result A B) (row k : ℕ) (text : List ℕ) (old new : List Located) (seen after : List (List ℕ)) (added : Bool) (w : Wrong)
    → w ≡ on_item (codes "matrix") row (codes "modes") k (codes "repeated permission") → added ≡ not (list_any (bytes_eq text) seen) → added ≡ false
    → after ≡ (if added then seen ++ text ∷ [] else seen) → OnOk r (new ≡ old ++ located w) → OnOk r (◌≡◌ {A = Looked} (new, after) (looked_at row k text (old, seen)))
seen_before r row k text old new seen after added w same is is_false kept pushed =
    let there : list_any (bytes_eq text) seen ≡ true = not-false (list_any (bytes_eq text) seen) (sym is ∙ is_false) in
    let unchanged : after ≡ seen = kept ∙ ap (λ b. if b then seen ++ text ∷ [] else seen) is_false in
    let told : ◌≡◌ {A = Looked} (old ++ located (on_item (codes "matrix") row (codes "modes") k (codes "repeated permission")), seen) (looked_at row k text (old, seen)) =
    sym (ap (λ b. if b then (old ++ located (on_item (codes "matrix") row (codes "modes") k (codes "repeated permission")), seen) else (old, seen ++ text ∷ [])) there) in
    on_ok_weaker r (λ so. ap (λ it. (it, after)) (so ∙ ap (λ it. old ++ located it) same)
    ∙ ap (λ s. (old ++ located (on_item (codes "matrix") row (codes "modes") k (codes "repeated permission")), s)) unchanged ∙ told) pushed
