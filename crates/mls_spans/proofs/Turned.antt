-- The turns of gets over one entry more.
use Rattle.std.proofs.Common.{◌≡◌, ℕ, ◌+◌, ◌<◌, false, List, [], ◌∷◌, ◌++◌, length, take, get_or, Some, None, sym, ap, subst, ◌∙◌, append-nil}
use Rattle.std.proofs.lemmas.List.{append_assoc}
use Rattle.mls_monitor.specs.Journal.{fold}
use Rattle.mls_requests.specs.declared.entry.Entry.{Entry}
use Rattle.mls_rules.specs.Rules.{after}
use Rattle.mls_state.specs.State.{State}
use Rattle.mls_tables.specs.Triples.{Triple}
use Rattle.mls_tables.specs.declared.limits.TheConstants.{MAX_SUBJECTS}
use Rattle.mls_spans.specs.Turning.{AreTurns, kept, settled}
use Rattle.mls_spans.specs.Windows.{would_grant, turned, turns_after, turns}
use Rattle.mls_spans.specs.declared.turning.Turns.{Turns}
use Rattle.mls_spans.proofs.Followed.{more, fold-push}

after_push : (v : State) (es : List Entry) (e : Entry) (t : Triple)
    → turns_after v (es ++ e ∷ []) t
    ≡ turns_after v es t ++ turned (would_grant (fold v es) t) (would_grant (after (fold v es) e.request) t) (Some e.number)
after_push v [] e t = append-nil (turned (would_grant v t) (would_grant (after v e.request) t) (Some e.number))
after_push v (f ∷ es) e t =
    let w = after v f.request in
    let first = turned (would_grant v t) (would_grant w t) (Some f.number) in
    ap (λ l. first ++ l) (after_push w es e t)
    ∙ sym (append_assoc first (turns_after w es t) (turned (would_grant (fold w es) t) (would_grant (after (fold w es) e.request) t) (Some e.number)))

turns_push : (v : State) (es : List Entry) (e : Entry) (t : Triple)
    → turns v (es ++ e ∷ []) t ≡ turns v es t ++ turned (would_grant (fold v es) t) (would_grant (after (fold v es) e.request) t) (Some e.number)
turns_push v es e t =
    let first = turned false (would_grant v t) None in
    ap (λ l. first ++ l) (after_push v es e t)
    ∙ sym (append_assoc first (turns_after v es t) (turned (would_grant (fold v es) t) (would_grant (after (fold v es) e.request) t) (Some e.number)))

-- the turns after the entries so far and the next
pub turns_next : (v0 v w : State) (es : List Entry) (n : ℕ) (e : Entry) (m new : Turns) → n < length es → e ≡ get_or es n e
    → v ≡ fold v0 (take n es) → w ≡ after v e.request → AreTurns v0 (take n es) m → new.object ≡ m.object
    → length new.modes.items ≡ MAX_SUBJECTS
    → ((t : Triple) → t.1 ≡ m.object → t.0 < MAX_SUBJECTS → kept new t ≡ settled w (Some e.number) t (kept m t))
    → AreTurns v0 (take (n + 1) es) new
turns_next v0 v w es n e m new within is at next so_far object long each = subst (λ l. AreTurns v0 l new) (sym (more es n e within is)) (record {
  subjects = long;
  each = λ t here small.
      let u = fold v0 (take n es) in
      let there : w ≡ after u e.request = next ∙ ap (λ k. after k e.request) at in
      each t (here ∙ object) small ∙ (λ i. settled (there i) (Some e.number) t (so_far.each t (here ∙ object) small i))
      ∙ (λ i. (would_grant (sym (fold-push v0 (take n es) e) i) t, sym (turns_push v0 (take n es) e t) i));
})
