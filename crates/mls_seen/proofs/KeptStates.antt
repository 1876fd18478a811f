-- A state that was kept, where it is the one to which the journal has led.
use Rattle.std.proofs.Common.{◌≡◌, ℕ, Bool, List, ◌++◌, drop, Result, Ok, Err, sym, ap, ◌∙◌, subst}
use Rattle.std.specs.Prelude.{IfOk, IsTrue}
use Rattle.mls_lines.specs.Names.{Names}
use Rattle.mls_state.specs.State.{State}
use Rattle.mls_monitor.specs.Journal.{Monitor, fold, IsLegal, state_of}
use Rattle.mls_start_file.specs.Ties.{Loaded}
use Rattle.mls_snapshots.specs.Reading.{IsOver}
use Rattle.mls_snapshots.specs.States.{state_text}
use Rattle.mls_seen.specs.Opened.{Opened}
use Rattle.mls_seen.specs.Seeing.{Seeing, GoesOnFrom, StandsOn}
use Rattle.mls_seen.proofs.Cuts.{TakesPlaces, LeadsAlike, Joins, joins}

-- the law that a text is of one state over a start
abbrev pub IsOfOneState : Loaded → Type 0
IsOfOneState l = (v w : State) → IsOver l.start v → IsOver l.start w → state_text l.names v ≡ state_text l.names w → v ≡ w

stands_on : (s : Seeing) (text : List ℕ) → TakesPlaces → LeadsAlike → IsOfOneState s.opened.loaded → GoesOnFrom s.opened s.cut s.monitor
    → IsLegal s.monitor.start s.monitor.entries → state_text s.opened.loaded.names (state_of s.monitor) ≡ text
    → IsOver s.opened.loaded.start (state_of s.monitor) → StandsOn s text
stands_on s text places alike one from legal written over earlier stands =
    let m = s.monitor in
    let start = s.opened.loaded.start in
    let later = drop s.cut.number m.entries in
    let both : Joins s earlier later = joins s from legal earlier stands in
    let same : state_of m ≡ fold start (earlier ++ later) =
    ap (fold m.start) both.parts ∙ sym (alike start m.start earlier later both.led both.legal) in
    record {
      many = sym both.many;
      legal = places start m.start earlier later stands.legal both.led both.legal;
      kept = λ w secure of reads. sym same ∙ one (state_of m) w over of (written ∙ sym reads);
    }

-- the same by the parts that are lent
pub kept_stands : {E : Type 0} (s : Seeing) (opened : Opened) (m : Monitor) (loaded : Loaded) (names : Names) (start state : State) (text : List ℕ)
    (result : Result Bool E) → TakesPlaces → LeadsAlike → IsOfOneState loaded → opened ≡ s.opened
    → m ≡ s.monitor → loaded ≡ opened.loaded → names ≡ opened.loaded.names → start ≡ opened.loaded.start → state ≡ state_of m
    → GoesOnFrom s.opened s.cut s.monitor → IsLegal m.start m.entries → IfOk result (λ is. IsTrue is → state_text names state ≡ text)
    → IfOk result (λ is. IsTrue is → IsOver start state) → IfOk result (λ is. IsTrue is → StandsOn s text)
kept_stands s opened m loaded names start state text (Err fault) places alike one same is parts called begun here from legal written over = tt
kept_stands s opened m loaded names start state text (Ok told) places alike one same is parts called begun here from legal written over = λ so.
    let law : IsOfOneState s.opened.loaded = subst IsOfOneState (parts ∙ ap (λ (o : Opened). o.loaded) same) one in
    let known : IsLegal s.monitor.start s.monitor.entries = subst (λ (k : Monitor). IsLegal k.start k.entries) is legal in
    let whose : names ≡ s.opened.loaded.names = called ∙ ap (λ (o : Opened). o.loaded.names) same in
    let opens : start ≡ s.opened.loaded.start = begun ∙ ap (λ (o : Opened). o.loaded.start) same in
    let led : state ≡ state_of s.monitor = here ∙ ap state_of is in
    let reads : state_text s.opened.loaded.names (state_of s.monitor) ≡ text = (λ i. state_text (sym whose i) (sym led i)) ∙ written so in
    let stands : IsOver s.opened.loaded.start (state_of s.monitor) = subst (λ (v : State). IsOver v (state_of s.monitor)) opens (subst (λ (v : State). IsOver start v) led (over so)) in
    stands_on s text places alike law from known reads stands

-- the text that was kept is the state's, by the parts that are lent
pub kept_reads : {E : Type 0} (s : Seeing) (opened : Opened) (m : Monitor) (names : Names) (state : State) (text : List ℕ) (result : Result Bool E)
    → opened ≡ s.opened → m ≡ s.monitor → names ≡ opened.loaded.names → state ≡ state_of m → IfOk result (λ is. IsTrue is → state_text names state ≡ text)
    → IfOk result (λ is. IsTrue is → state_text s.opened.loaded.names (state_of s.monitor) ≡ text)
kept_reads s opened m names state text (Err fault) same is called here written = tt
kept_reads s opened m names state text (Ok told) same is called here written = λ so.
    let whose : names ≡ s.opened.loaded.names = called ∙ ap (λ (o : Opened). o.loaded.names) same in
    let led : state ≡ state_of s.monitor = here ∙ ap state_of is in
    (λ i. state_text (sym whose i) (sym led i)) ∙ written so
