-- The words of actions.
use Rattle.std.specs.Prelude.{ℕ, List, [], ◌∷◌, codes, Option}
use Rattle.mls_tables.specs.declared.mode.Mode.TheVariants.{Execute, Read, Append, Write}
use Rattle.mls_requests.specs.declared.action.Action.{Action}
use Rattle.mls_requests.specs.declared.action.Action.TheVariants as action
use Rattle.mls_requests.specs.declared.action_word.ActionWord.{ActionWord}
use Rattle.mls_requests.specs.declared.action_word.ActionWord.TheVariants.{Get, Release, Give, Rescind, Create, Delete}
use Rattle.mls_requests.specs.declared.action_word.ActionWord.TheVariants.{Level, Relabel}
use Rattle.mls_requests.specs.Words.{with_word}

-- Which action it is, without what it is about. (own)
abbrev pub word_of_action : Action → ActionWord
word_of_action (action.Get x o) = Get x
word_of_action (action.Release x o) = Release
word_of_action (action.Give x s o) = Give
word_of_action (action.Rescind x s o) = Rescind
word_of_action (action.Create parent security integrity) = Create
word_of_action (action.Delete o) = Delete
word_of_action (action.SubjectLevel l) = Level
word_of_action (action.ObjectLevel o l) = Relabel

-- The word of an action. (own)
abbrev pub action_word : ActionWord → List ℕ
action_word (Get Execute) = codes "get-execute"
action_word (Get Read) = codes "get-read"
action_word (Get Append) = codes "get-append"
action_word (Get Write) = codes "get-write"
action_word Release = codes "release"
action_word Give = codes "give"
action_word Rescind = codes "rescind"
action_word Create = codes "create"
action_word Delete = codes "delete"
action_word Level = codes "level"
action_word Relabel = codes "relabel"

-- All actions, in the order in which a word is looked for. (own)
abbrev pub all_actions : List ActionWord
all_actions =
    Get Execute ∷ Get Read ∷ Get Append ∷ Get Write ∷ Release ∷ Give ∷ Rescind ∷ Create ∷ Delete ∷ Level ∷ Relabel ∷ []

-- The action that has this word. (own)
abbrev pub read_action : List ℕ → Option ActionWord
read_action token = with_word action_word all_actions token
