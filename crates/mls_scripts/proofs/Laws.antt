-- What other rooms may know of scripts that are fed.

-- what a script printed since, that was fed to its end
pub use Rattle.mls_scripts.proofs.Fed.{fed_prints}
-- a script whose session is alone in what the journal got prints what `serve` answers
pub use Rattle.mls_scripts.proofs.Alone.{alone}
-- lines that are cut out of bytes that come in pieces
pub use Rattle.mls_scripts.proofs.LineLemmas.{closed_lines-append, open-append, closed_lines-cuts, open_part-cuts, closed_lines-open, open_none, open_part_is_open}
pub use Rattle.mls_scripts.proofs.LineLemmas.{has_newline-joined, lines_of-parts, last_line, shorter}
-- what is kept of a line tells as much as the line
pub use Rattle.mls_scripts.proofs.Kept.{kept_of-joined, length-kept_of, kept_nothing, kept_something, line_of-kept}
-- what lines one after another are answered, and what they leave
pub use Rattle.mls_scripts.proofs.Runs.{after_lines-append, answers-append, answers-one, after_lines-one}
