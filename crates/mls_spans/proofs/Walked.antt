-- What is found of entries while their text is walked through.
use Rattle.std.proofs.Common.{◌≡◌, ℕ, ◌<◌, List, [], ◌++◌, None, sym, ap, ◌∙◌, subst, append-nil}
use Rattle.mls_listings.specs.Trusted.{trusted_over, trusted_here}
use Rattle.mls_replay.specs.Replays.{IsTextOf}
use Rattle.mls_requests.specs.declared.entry.Entry.{Entry}
use Rattle.mls_rules.specs.Rules.{after}
use Rattle.mls_state.specs.State.{State}
use Rattle.mls_tables.specs.Triples.{Triple}
use Rattle.mls_spans.specs.Kept.{IsTally, followed, kept}
use Rattle.mls_spans.specs.Spans.{spans_over, opened}
use Rattle.mls_spans.specs.Sweeping.{moved, sought}
use Rattle.mls_spans.specs.Texts.{BeginsWith}
use Rattle.mls_spans.specs.declared.span.Span.{Span}
use Rattle.mls_spans.specs.declared.tally.Tally.{Tally}
use Rattle.mls_spans.proofs.Followed.{spans_pushed}
use Rattle.mls_spans.proofs.TrustedMore.{trusted-push, trusted_none}
use Rattle.mls_spans.proofs.Tallied.{tally_none, tally_pushed}
use Rattle.mls_spans.proofs.TextWalks.{Walked, walk_begins, walk_goes_on, walked_all}

-- the first line of what is left begins what is left
abbrev pub Begins : List ℕ → Entry → List ℕ → Type 0
Begins rest e more = (left : List Entry) → IsTextOf rest left → BeginsWith left e more

-- none is left
abbrev pub Ends : List ℕ → Type 0
Ends rest = (left : List Entry) → IsTextOf rest left → left ≡ []

-- The spans are those of the entries that were walked through.
pub record SpansSoFar (entries : List Entry) (rest : List ℕ) (v0 v : State) (spans : List Span) : Type 0 where
  pub walked : Walked entries rest v0 v
  pub told : spans ≡ spans_over v0 walked.read

pub spans_begin : (entries : List Entry) (text : List ℕ) (v : State) (spans : List Span) → spans ≡ opened v [] → IsTextOf text entries
    → SpansSoFar entries text v v spans
unfolding walk_begins
spans_begin entries text v spans begun is = record { walked = walk_begins entries text v is; told = begun ∙ sym (append-nil (opened v [])) }

pub spans_walk : (entries : List Entry) (rest more : List ℕ) (v0 v w : State) (e : Entry) (spans new : List Span) → Begins rest e more
    → w ≡ after v e.request → new ≡ moved w e (sought v e.request.subject e.request.action) spans
    → SpansSoFar entries rest v0 v spans → SpansSoFar entries more v0 w new
spans_walk entries rest more v0 v w e spans new begins next added known =
    let step = walk_goes_on entries rest more v0 v w e known.walked (begins known.walked.left known.walked.text) next in
    record {
      walked = step.0;
      told = spans_pushed v0 v w known.walked.read e spans new known.walked.state next known.told added ∙ ap (spans_over v0) (sym step.1);
    }

pub spans_end : (entries : List Entry) (rest : List ℕ) (v0 v : State) (spans : List Span) → Ends rest → SpansSoFar entries rest v0 v spans
    → spans ≡ spans_over v0 entries
spans_end entries rest v0 v spans ends known =
    known.told ∙ ap (spans_over v0) (walked_all entries rest v0 v known.walked (ends known.walked.left known.walked.text))

-- The tally is that of the entries that were walked through.
pub record TallySoFar (entries : List Entry) (rest : List ℕ) (v0 v : State) (m : Tally) : Type 0 where
  pub walked : Walked entries rest v0 v
  pub tally : IsTally v0 walked.read m

pub tally_begin : (entries : List Entry) (text : List ℕ) (v : State) (m : Tally) → ((t : Triple) → kept m t ≡ None) → IsTextOf text entries
    → TallySoFar entries text v v m
unfolding walk_begins
tally_begin entries text v m none is = record { walked = walk_begins entries text v is; tally = tally_none v m none }

pub tally_walk : (entries : List Entry) (rest more : List ℕ) (v0 v w : State) (e : Entry) (m new : Tally) → Begins rest e more
    → w ≡ after v e.request → ((t : Triple) → t.1 < 65536 → kept new t ≡ followed v w e t (kept m t))
    → TallySoFar entries rest v0 v m → TallySoFar entries more v0 w new
tally_walk entries rest more v0 v w e m new begins next each known =
    let step = walk_goes_on entries rest more v0 v w e known.walked (begins known.walked.left known.walked.text) next in
    record {
      walked = step.0;
      tally =
          subst (λ es. IsTally v0 es new) (sym step.1)
          (tally_pushed v0 v w known.walked.read e m new known.walked.state next known.tally each);
    }

pub tally_end : (entries : List Entry) (rest : List ℕ) (v0 v : State) (m : Tally) → Ends rest → TallySoFar entries rest v0 v m
    → IsTally v0 entries m
tally_end entries rest v0 v m ends known =
    subst (λ es. IsTally v0 es m) (walked_all entries rest v0 v known.walked (ends known.walked.left known.walked.text)) known.tally

-- Those are found that trust granted among the entries that were walked through.
pub record TrustedSoFar (entries : List Entry) (rest : List ℕ) (v0 v : State) (found : List Entry) : Type 0 where
  pub walked : Walked entries rest v0 v
  pub told : found ≡ trusted_over v0 walked.read

pub trusted_begin : (entries : List Entry) (text : List ℕ) (v : State) (found : List Entry) → found ≡ [] → IsTextOf text entries
    → TrustedSoFar entries text v v found
unfolding walk_begins
trusted_begin entries text v found none is = record { walked = walk_begins entries text v is; told = none ∙ sym (trusted_none v) }

pub trusted_walk : (entries : List Entry) (rest more : List ℕ) (v0 v w : State) (e : Entry) (found new : List Entry) → Begins rest e more
    → w ≡ after v e.request → new ≡ found ++ trusted_here v e → TrustedSoFar entries rest v0 v found → TrustedSoFar entries more v0 w new
trusted_walk entries rest more v0 v w e found new begins next added known =
    let step = walk_goes_on entries rest more v0 v w e known.walked (begins known.walked.left known.walked.text) next in
    record {
      walked = step.0;
      told =
          added ∙ (λ i. known.told i ++ trusted_here (known.walked.state i) e) ∙ sym (trusted-push v0 known.walked.read e)
          ∙ ap (trusted_over v0) (sym step.1);
    }

pub trusted_end : (entries : List Entry) (rest : List ℕ) (v0 v : State) (found : List Entry) → Ends rest → TrustedSoFar entries rest v0 v found
    → found ≡ trusted_over v0 entries
trusted_end entries rest v0 v found ends known =
    known.told ∙ ap (trusted_over v0) (walked_all entries rest v0 v known.walked (ends known.walked.left known.walked.text))
