-- Lists of sessions that ascend by number.
use Rattle.std.proofs.Common.{◌≡◌, ℕ, zero, suc, ◌+◌, ◌<◌, ◌≤◌, List, [], ◌∷◌, length, get_or, set, sym, ap, ◌∙◌, subst, arith}
use Rattle.mls_sessions.specs.Sessions.{Office, Session, IsOf, Ascending, number_of}

pub ascending_read : (o : Office) (m : ℕ) (ss : List Session) (k : ℕ) (s : Session) → Ascending o m ss → k < length ss → s ≡ get_or ss k s → IsOf o s
ascending_read o m [] k s a within at = absurd (omega arith)
ascending_read o m (x ∷ ss) zero s a within at = subst (IsOf o) (sym at) a.0
ascending_read o m (x ∷ ss) (suc k) s a within at = ascending_read o (number_of x.view + 1) ss k s a.2 (omega arith) at

pub ascending_put : (o : Office) (m : ℕ) (ss : List Session) (k : ℕ) (s t : Session) → Ascending o m ss → k < length ss → s ≡ get_or ss k s → IsOf o t → number_of t.view ≡ number_of s.view → Ascending o m (set ss k t)
ascending_put o m [] k s t a within at of same = absurd (omega arith)
ascending_put o m (x ∷ ss) zero s t a within at of same =
    let is : number_of t.view ≡ number_of x.view = same ∙ ap (λ (y : Session). number_of y.view) at in
    (of, subst (λ (n : ℕ). m ≤ n) (sym is) a.1, subst (λ (n : ℕ). Ascending o (n + 1) ss) (sym is) a.2)
ascending_put o m (x ∷ ss) (suc k) s t a within at of same = (a.0, a.1, ascending_put o (number_of x.view + 1) ss k s t a.2 (omega arith) at of same)
