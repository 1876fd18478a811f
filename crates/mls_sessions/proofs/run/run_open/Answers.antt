use Rattle.mls_turns.specs.Journals.{journal_of}
use Rattle.mls_sessions.proofs.Feeds.{all_fed, all_told}
use Rattle.mls_sessions.proofs.run.run_open.Goals as goal

pub returns-clause-fed : goal.returns-clause-fed
returns-clause-fed g c =
    λ end. all_fed g.F.Feed.gives g.F.Feed.gives_ahead g.F.Feed.hears g.F.Feed.stops _ (journal_of c.in-Ok.monitor) _ _ _ _ _ c.requires.newcomers c.attend_all-back.ensures.served end c.attend_all-back.ensures.sessions c.in-Ok.ensures.ok.all

pub returns-clause-told : goal.returns-clause-told
returns-clause-told g c =
    all_told g.F.Feed.gives g.F.Feed.gives_ahead g.F.Feed.hears g.F.Feed.stops _ (journal_of c.in-Ok.monitor) _ _ _ _ _ c.requires.newcomers c.attend_all-back.ensures.served c.attend_all-back.ensures.sessions c.in-Ok.ensures.ok.all
