-- A boot file as a list of changes, which make its state of nothing.
use Rattle.std.specs.Prelude.{List, [], ◌∷◌, ◌++◌}
use Rattle.gh_model.specs.Boot.{after_line, changes_of_line, empty_state}
use Rattle.gh_model.specs.declared.boot_line.BootLine.{BootLine}
use Rattle.gh_model.specs.declared.change.Change.{Change}
use Rattle.gh_model.specs.declared.state.State.{State}

-- the changes of lines in order, each line's in the state that the lines before it made
abbrev pub changes_of_lines : State → List BootLine → List Change
changes_of_lines s [] = []
changes_of_lines s (line ∷ lines) =
    changes_of_line s line ++ changes_of_lines (after_line s line) lines

-- the changes of a boot file
abbrev pub boot_changes : List BootLine → List Change
boot_changes lines = changes_of_lines empty_state lines
