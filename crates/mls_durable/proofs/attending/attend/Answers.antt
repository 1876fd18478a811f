use Rattle.std.proofs.Common.{[], ◌-◌, string_bytes, refl, ap, ◌∙◌}
use Rattle.mls_scripts.specs.Script.{standing_of}
use Rattle.mls_durable.specs.Batches.{Pending}
use Rattle.mls_durable.proofs.Pieces.{attends_nothing, begins, attends_from}
use Rattle.mls_durable.proofs.attending.attend.Goals as goal

pub returns-in_default-clause-attends : goal.returns-in_default-clause-attends
returns-in_default-clause-attends g c = λ before is. (
  before,
  is,
  λ settled len.
      attends_nothing c.args.names.now c.args.protocol (standing_of [] c.args.monitor.now) (Unit {0}) (g.R.Read.remaining c.args.reader.now) c.args.monitor.now.entries before refl c.entries.ensures.legal settled,
)

pub returns-clause-attends : goal.returns-clause-attends
returns-clause-attends g c = λ before is.
    let start = standing_of [] c.args.monitor.now in
    let first = standing_of c.new.result.bound c.args.monitor.now in
    let same = ap (λ vars. standing_of vars c.args.monitor.now) c.new.ensures in
    let p : Pending = record { now = first; text = string_bytes c.new-2.result; out = c.new-3.result.items; room = c.saturating_sub.result } in
    let done = c.attend_pieces.ensures.attends before is in (
      done.0,
      done.1,
      λ settled len.
          attends_from c.args.names.now c.args.protocol first start (g.R.Read.remaining c.args.reader.now) (g.R.Read.remaining c.attend_pieces.new.reader) c.attend_pieces.new.monitor.entries before done.0 c.attend_pieces.result same
          (done.2 (begins c.args.names.now c.args.protocol first start before p c.args.len same c.entries.ensures.legal settled refl c.new-2.ensures.bytes c.new-3.ensures.items len (c.saturating_sub.ensures ∙ ap (λ n. n - c.args.len) c.file_limit.ensures))),
    )
