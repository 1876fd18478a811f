use Rattle.std.proofs.Common.{subst}
use Rattle.mls_labels.specs.Scheme.{IsScheme}
use Rattle.mls_lines.proofs.LinesRead.{Laws, line_says, line_reads, line_refused, refused_line}
use Rattle.mls_lines.proofs.theorems.lines_law.Goals as goal

pub returns : goal.returns
returns g c =
    let laws : Laws = record {
      labels = c.a_text_is_read_as_it_is_spelled.ensures.label;
      modes = c.modes_have_their_words.ensures.written;
      actions = c.actions_have_their_words.ensures.written;
    } in
    let security = subst IsScheme c.security.ensures c.bounds.ensures.sound in
    let integrity = subst IsScheme c.integrity.ensures c.bounds-2.ensures.sound in
    record {
      read = line_says laws c.args.names.now c.args._vars.now.bound security integrity c.args._line.now;
      said = line_reads laws c.args.names.now c.args._vars.now.bound security integrity c.args._line.now;
      refused = line_refused laws c.args.names.now c.args._vars.now.bound security integrity c.args._line.now;
      refuses = refused_line laws c.args.names.now c.args._vars.now.bound security integrity c.args._line.now;
    }
