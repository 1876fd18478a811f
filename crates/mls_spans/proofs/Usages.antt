-- The usages of permissions by what is kept of them, and by what they are.
use Rattle.std.proofs.Common.{◌≡◌, ℕ, ◌≤◌, true, false, cond, List, [], ◌++◌, sym, ap, ◌∙◌, append-nil, arith}
use Rattle.std.specs.List.{flat_map, range_with_len}
use Rattle.mls_requests.specs.declared.entry.Entry.{Entry}
use Rattle.mls_state.specs.State.{State, is_subject}
use Rattle.mls_tables.specs.declared.limits.TheConstants.{MAX_OBJECTS}
use Rattle.mls_spans.specs.Uses.{is_permission, usage_by, usage_of, usages, accesses_on, accesses_by, all_accesses}
use Rattle.mls_spans.specs.Kept.{IsTally, is_there, usage_told, usages_told}
use Rattle.mls_spans.specs.declared.tally.Tally.{Tally}
use Rattle.mls_spans.specs.declared.usage.Usage.{Usage}
use Rattle.mls_spans.proofs.UsageRows.{all_same}

-- what is told by a tally is what is so
pub told_usages : (v : State) (es : List Entry) (m : Tally) → IsTally v es m → usages_told v m (all_accesses v) ≡ usages v es
told_usages v es m tally =
    let fits : MAX_OBJECTS ≤ 65536 = omega arith in
    all_same (is_there v m) (is_permission v es) (usage_told v m) (usage_of v es) 65536 fits
    tally.there (λ t small. ap (usage_by v t) (tally.uses t small)) v

-- a subject that isn't known has no permissions
pub none_by_unknown : (v : State) (m : Tally) (s : ℕ) (rows : List Usage) → is_subject v s ≡ false
    → rows ≡ rows ++ usages_told v m (accesses_by v s)
unfolding accesses_by
none_by_unknown v m s rows unknown =
    sym (append-nil rows)
    ∙ ap (λ b. rows ++ usages_told v m (cond b (flat_map (accesses_on s) (range_with_len 0 MAX_OBJECTS)) [])) (sym unknown)

-- those of a subject that is known
pub all_by_known : (v : State) (m : Tally) (s n : ℕ) (rows new : List Usage) → is_subject v s ≡ true → n ≡ MAX_OBJECTS
    → new ≡ rows ++ usages_told v m (flat_map (accesses_on s) (range_with_len 0 n))
    → new ≡ rows ++ usages_told v m (accesses_by v s)
unfolding accesses_by
all_by_known v m s n rows new known all is =
    is ∙ ap (λ k. rows ++ usages_told v m (flat_map (accesses_on s) (range_with_len 0 k))) all ∙ ap (λ b. rows ++ usages_told v m (cond b (flat_map (accesses_on s) (range_with_len 0 MAX_OBJECTS)) [])) (sym known)
