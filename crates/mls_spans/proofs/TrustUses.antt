-- The uses of trust by subject, with one entry or one subject more.
use Rattle.std.proofs.Common.{◌≡◌, ℕ, ◌+◌, ◌<◌, Bool, true, false, cond, List, [], ◌∷◌, ◌++◌, length, take, get_or, filter, Option, Some, None, if◌then◌else◌, refl, sym, ap, ◌∙◌, append-nil}
use Rattle.std.proofs.lemmas.List.{take_more}
use Rattle.std.proofs.lemmas.List.Elements.{filter-append}
use Rattle.mls_requests.specs.declared.entry.Entry.{Entry}
use Rattle.mls_spans.specs.Trust.{is_asked_by, last_entry}

last-push : (known : Option ℕ) (es : List Entry) (e : Entry) → last_entry known (es ++ e ∷ []) ≡ Some e.number
last-push known [] e = refl
last-push known (x ∷ es) e = last-push (Some x.number) es e

last-where : (so : Bool) (es : List Entry) (e : Entry)
    → last_entry None (es ++ cond so (e ∷ []) []) ≡ (if so then Some e.number else last_entry None es)
last-where true es e = last-push None es e
last-where false es e = ap (last_entry None) (append-nil es)

more : (s : ℕ) (es : List Entry) (n : ℕ) (e : Entry) → n < length es → e ≡ get_or es n e
    → filter (is_asked_by s) (take (n + 1) es) ≡ filter (is_asked_by s) (take n es) ++ cond (is_asked_by s e) (e ∷ []) []
more s es n e within is =
    ap (filter (is_asked_by s)) (take_more es n e within ∙ ap (λ k. take n es ++ k ∷ []) (sym is))
    ∙ filter-append (is_asked_by s) (take n es) (e ∷ [])

-- the last of the entries so far and the next that a subject asked
pub last_next : (s : ℕ) (es : List Entry) (n : ℕ) (e : Entry) (last new : Option ℕ) → n < length es → e ≡ get_or es n e
    → last ≡ last_entry None (filter (is_asked_by s) (take n es)) → new ≡ (if is_asked_by s e then Some e.number else last)
    → new ≡ last_entry None (filter (is_asked_by s) (take (n + 1) es))
last_next s es n e last new within is so_far step =
    step ∙ ap (λ l. if is_asked_by s e then Some e.number else l) so_far
    ∙ sym (last-where (is_asked_by s e) (filter (is_asked_by s) (take n es)) e) ∙ ap (last_entry None) (sym (more s es n e within is))
