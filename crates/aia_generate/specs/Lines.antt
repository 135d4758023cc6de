-- What an iterator over the lines of a generated script still has to give. Vocabulary.
use Rattle.std.specs.Prelude.{List, ◌++◌, drop}
use Rattle.aia_model.specs.declared.line.Line.{Line}
use Rattle.aia_generate.specs.declared.lines.GeneratedLines.{GeneratedLines}
use Rattle.aia_generate.specs.Generated.{head_lines, body_lines}

-- The lines of the head past those given, and those of the body that are left.
unfoldable pub lines_left : GeneratedLines → List Line
lines_left lines = drop lines.given head_lines ++ body_lines lines.left lines.number
