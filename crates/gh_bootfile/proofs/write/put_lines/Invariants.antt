-- What is written so far and what the rest writes make the whole.
use Rattle.std.proofs.Common.{◌≡◌, ◌++◌, true, take, drop, string_bytes}
use Rattle.std.specs.List.{flat_map, list_all}
use Rattle.gh_bootfile.specs.Grammar.{ended_line, fields_hold}
use Rattle.gh_bootfile.proofs.write.put_lines.Given as goal

abbrev pub invariant-loop-line : goal.invariant-loop-line
invariant-loop-line l = record {
  whole : string_bytes l.out ++ flat_map ended_line (drop l.line-index l.lines) ≡ string_bytes l.fn.out ++ flat_map ended_line l.lines;
  fields : list_all fields_hold (take l.line-index l.lines) ≡ true;
}
