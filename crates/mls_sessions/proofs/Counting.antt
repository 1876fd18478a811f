-- What a session that read the count of changes knows.
use Rattle.std.proofs.Common.{◌≡◌, ◌≤◌, ℕ, arith, sym, ap, ◌∙◌}
use Rattle.mls_monitor.specs.Journal.{fold}
use Rattle.mls_sessions.specs.Changes.{Keeps}
use Rattle.mls_sessions.specs.Rule.{begun}
use Rattle.mls_sessions.specs.Steps.{Seat}
use Rattle.mls_sessions.specs.Sessions.{Office, Session, session_at, seated, member_of, IsOf, Sees, history, number_of, changes_seen}
use Rattle.mls_sessions.proofs.Lasting.{more_changes, kept_while_same}

module _ (o : Office) (s : Session) (of : IsOf o s) (me : Seat) (is : me ≡ seated o.charter (member_of me.0)) (same : number_of me.0 ≡ number_of s.view) (sees : Sees o.charter s.view me.0) (count : ℕ) (counted : count ≡ changes_seen me.0) where
  abbrev t : Session
  t = session_at s.table me.0

  t_of : IsOf o t
  t_of = let small = of.2 in (of.0, ap (λ (z : Seat). z.0) is, omega arith)

  pub count_rises : changes_seen s.view ≤ count
  count_rises = let more = more_changes o s t of t_of same sees in omega arith

  pub count_keeps : count ≡ changes_seen s.view → Keeps (fold (begun o.charter) (history s.view)) (fold (begun o.charter) (history me.0))
  count_keeps as_before = kept_while_same o s t of t_of same sees (sym counted ∙ as_before)
