-- Requests in numbers.
use Rattle.std.specs.Prelude.{ℕ, ◌==◌, Option, Some, None, if◌then◌else◌}
use Rattle.mls_tables.specs.declared.mode.Mode.{Mode}
use Rattle.mls_tables.specs.declared.mode.Mode.TheVariants.{Execute, Read, Append, Write}
use Rattle.mls_requests.specs.declared.action.Action.{Action}
use Rattle.mls_requests.specs.declared.action.Action.TheVariants.{Get, Release, Give, Rescind, Create, Delete}
use Rattle.mls_requests.specs.declared.action.Action.TheVariants.{SubjectLevel, ObjectLevel}
use Rattle.mls_requests.specs.declared.request.Request.{Request}
use Rattle.mls_start_text.specs.Each.{having}
use Rattle.mls_c.specs.Labels.{label_of, numbers_of_label, no_label}
use Rattle.mls_c.specs.declared.request.RequestNumbers.{RequestNumbers}

-- The mode of a number. (own)
abbrev pub mode_at : ℕ → Option Mode
mode_at n =
    if n == 0 then Some Execute
    else if n == 1 then Some Read
    else if n == 2 then Some Append
    else if n == 3 then Some Write
    else None

-- The number of a mode. (own)
abbrev pub number_of_mode : Mode → ℕ
number_of_mode Execute = 0
number_of_mode Read = 1
number_of_mode Append = 2
number_of_mode Write = 3

-- The action of numbers, where they are one's; what an action doesn't use isn't looked at. (own)
abbrev pub action_of : RequestNumbers → Option Action
action_of q =
    if q.action == 0 then having (mode_at q.mode) (λ x. Some (Get x q.object))
    else if q.action == 1 then having (mode_at q.mode) (λ x. Some (Release x q.object))
    else if q.action == 2 then having (mode_at q.mode) (λ x. Some (Give x q.other q.object))
    else if q.action == 3 then having (mode_at q.mode) (λ x. Some (Rescind x q.other q.object))
    else if q.action == 4
    then having (label_of q.security) (λ l. having (label_of q.integrity) (λ i. Some (Create q.object l i)))
    else if q.action == 5 then Some (Delete q.object)
    else if q.action == 6 then having (label_of q.security) (λ l. Some (SubjectLevel l))
    else if q.action == 7 then having (label_of q.security) (λ l. Some (ObjectLevel q.object l))
    else None

-- The request of numbers, where they are one's. (own)
abbrev pub request_of : RequestNumbers → Option Request
request_of q = having (action_of q) (λ a. Some (record { subject = q.subject; action = a }))

-- The numbers of a request of this subject, with 0 for all else. (own)
abbrev pub blank : ℕ → RequestNumbers
blank s = record { action = 0; mode = 0; subject = s; other = 0; object = 0; security = no_label; integrity = no_label }

-- A request in numbers; what its action doesn't use is 0. (own)
abbrev pub numbers_of_action : ℕ → Action → RequestNumbers
numbers_of_action s (Get x o) = record (blank s) { mode = number_of_mode x; object = o }
numbers_of_action s (Release x o) = record (blank s) { action = 1; mode = number_of_mode x; object = o }
numbers_of_action s (Give x t o) = record (blank s) { action = 2; mode = number_of_mode x; other = t; object = o }
numbers_of_action s (Rescind x t o) = record (blank s) { action = 3; mode = number_of_mode x; other = t; object = o }
numbers_of_action s (Create o l i) =
    record (blank s) { action = 4; object = o; security = numbers_of_label l; integrity = numbers_of_label i }
numbers_of_action s (Delete o) = record (blank s) { action = 5; object = o }
numbers_of_action s (SubjectLevel l) = record (blank s) { action = 6; security = numbers_of_label l }
numbers_of_action s (ObjectLevel o l) = record (blank s) { action = 7; object = o; security = numbers_of_label l }

-- A request in numbers. (own)
abbrev pub numbers_of_request : Request → RequestNumbers
numbers_of_request r = numbers_of_action r.subject r.action
