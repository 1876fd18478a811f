-- What holds of every table of words: what a word stands for has it, and where each thing is read of its word, no two have one word.
use Rattle.std.proofs.Common.{◌≡◌, ℕ, true, false, cond, List, [], ◌∷◌, Some, refl, sym, ap, ◌∙◌}
use Rattle.std.specs.Str.{bytes_eq}
use Rattle.std.proofs.lemmas.Slice.Eq.{bytes_eq-Decides}
use Rattle.mls_tables.specs.declared.mode.Mode.{Mode}
use Rattle.mls_tables.specs.declared.mode.Mode.TheVariants.{Execute, Read, Append, Write}
use Rattle.mls_requests.specs.declared.action_word.ActionWord.{ActionWord}
use Rattle.mls_requests.specs.declared.action_word.ActionWord.TheVariants.{Get, Release, Give, Rescind, Create, Delete, Level, Relabel}
use Rattle.mls_requests.specs.declared.reason.Reason.{Reason}
use Rattle.mls_requests.specs.declared.reason.Reason.TheVariants.{Discretionary, Simple, Star, Integrity, Authority, Compatibility, Ceiling, Root, Full}
use Rattle.mls_requests.specs.declared.reply_word.ReplyWord.{ReplyWord}
use Rattle.mls_requests.specs.declared.reply_word.ReplyWord.TheVariants.{Yes, Created, No, Undefined}
use Rattle.mls_requests.specs.Words.{with_word}
use Rattle.mls_requests.specs.ActionWords.{action_word, read_action}
use Rattle.mls_requests.specs.ModeWords.{mode_word, read_mode}
use Rattle.mls_requests.specs.ReasonWords.{reason_word, read_reason}
use Rattle.mls_requests.specs.ReplyWords.{reply_word, read_reply}

pub word_written : {X : Type 0} (word_of : X → List ℕ) (things : List X) (token : List ℕ) (x : X) → with_word word_of things token ≡ Some x → token ≡ word_of x
word_written word_of [] token x h = cc
word_written word_of (y ∷ things) token x h =
    elim (bytes_eq token (word_of y)) as (λ t. bytes_eq token (word_of y) ≡ t → cond t (Some y) (with_word word_of things token) ≡ Some x → token ≡ word_of x) [
      | true ↦ λ here is. let same : y ≡ x = cc in (bytes_eq-Decides token (word_of y)).0 here ∙ ap word_of same
      | false ↦ λ _ is. word_written word_of things token x is
    ] refl h

pub words_apart : {X : Type 0} (word_of : X → List ℕ) (things : List X) → ((x : X) → with_word word_of things (word_of x) ≡ Some x) → (a b : X) → word_of a ≡ word_of b → a ≡ b
words_apart word_of things reads a b e = let same : Some a ≡ Some b = sym (reads a) ∙ ap (with_word word_of things) e ∙ reads b in cc

-- each thing is read of its word
pub mode_reads : (x : Mode) → read_mode (mode_word x) ≡ Some x
mode_reads Execute = refl
mode_reads Read = refl
mode_reads Append = refl
mode_reads Write = refl

pub action_reads : (x : ActionWord) → read_action (action_word x) ≡ Some x
action_reads (Get Execute) = refl
action_reads (Get Read) = refl
action_reads (Get Append) = refl
action_reads (Get Write) = refl
action_reads Release = refl
action_reads Give = refl
action_reads Rescind = refl
action_reads Create = refl
action_reads Delete = refl
action_reads Level = refl
action_reads Relabel = refl

pub reason_reads : (x : Reason) → read_reason (reason_word x) ≡ Some x
reason_reads Discretionary = refl
reason_reads Simple = refl
reason_reads Star = refl
reason_reads Integrity = refl
reason_reads Authority = refl
reason_reads Compatibility = refl
reason_reads Ceiling = refl
reason_reads Root = refl
reason_reads Full = refl

pub reply_reads : (x : ReplyWord) → read_reply (reply_word x) ≡ Some x
reply_reads Yes = refl
reply_reads Created = refl
reply_reads No = refl
reply_reads Undefined = refl
