-- What is known of entries while their text is walked through.
use Rattle.std.proofs.Common.{◌≡◌, ℕ, List, [], ◌∷◌, ◌++◌, refl, sym, ap, ◌∙◌, append-nil}
use Rattle.std.proofs.lemmas.List.{append_assoc}
use Rattle.mls_monitor.specs.Journal.{fold}
use Rattle.mls_replay.specs.Replays.{IsTextOf}
use Rattle.mls_requests.specs.declared.entry.Entry.{Entry}
use Rattle.mls_rules.specs.Rules.{after}
use Rattle.mls_state.specs.State.{State}
use Rattle.mls_spans.specs.Texts.{BeginsWith}
use Rattle.mls_spans.proofs.Followed.{fold-push}

-- Entries are walked through up to the rest of their text, from a state to another.
pub record Walked (entries : List Entry) (rest : List ℕ) (v0 v : State) : Type 0 where
  pub read : List Entry
  pub left : List Entry
  pub parts : entries ≡ read ++ left
  pub text : IsTextOf rest left
  pub state : v ≡ fold v0 read

-- none is yet
unfoldable pub walk_begins : (entries : List Entry) (text : List ℕ) (v : State) → IsTextOf text entries → Walked entries text v v
walk_begins entries text v is = record { read = []; left = entries; parts = refl; text = is; state = refl }

-- one entry more is
pub walk_goes_on : (entries : List Entry) (rest more : List ℕ) (v0 v w : State) (e : Entry) (walked : Walked entries rest v0 v)
    → BeginsWith walked.left e more → w ≡ after v e.request → (new : Walked entries more v0 w) × (new.read ≡ walked.read ++ e ∷ [])
walk_goes_on entries rest more v0 v w e k begins next = (
  record {
    read = k.read ++ e ∷ [];
    left = begins.behind;
    parts = k.parts ∙ ap (λ es. k.read ++ es) begins.first ∙ sym (append_assoc k.read (e ∷ []) begins.behind);
    text = begins.text;
    state = next ∙ ap (λ s. after s e.request) k.state ∙ sym (fold-push v0 k.read e);
  },
  refl,
)

-- where none is left, all are
pub walked_all : (entries : List Entry) (rest : List ℕ) (v0 v : State) (walked : Walked entries rest v0 v) → walked.left ≡ [] → walked.read ≡ entries
walked_all entries rest v0 v walked none = sym (walked.parts ∙ ap (λ es. walked.read ++ es) none ∙ append-nil walked.read)
