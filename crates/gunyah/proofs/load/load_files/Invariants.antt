use Rattle.std.proofs.Common.{◌≡◌, ◌++◌, [], length, map, take, drop, IfSome, true}
use Rattle.std.specs.List.{All}
use Rattle.gunyah.specs.Input.{sizes_on, is_small}
use Rattle.gunyah.specs.Outcome.{requests}
use Rattle.gh_callfile.specs.Grammar.{texts_of}
use Rattle.gunyah.proofs.load.load_files.Given as goal

abbrev pub invariant-loop-name : goal.invariant-loop-name
invariant-loop-name g l = record {
  texts : IfSome (g.F.Files.contents l.fn.files)
      (λ file. sizes_on l.texts (map file (texts_of (drop l.name-index l.names))) ≡ sizes_on [] (map file (texts_of l.names)));
  count : length l.texts ≡ l.name-index;
  told : g.F.Files.contents l.files ≡ g.F.Files.contents l.fn.files;
  asked : g.F.Files.asked l.files ≡ g.F.Files.asked l.fn.files ++ requests (texts_of (take l.name-index l.names));
  small : IfSome (g.F.Files.contents l.fn.files)
      (λ file. All (λ text. is_small text ≡ true) (map file (texts_of (take l.name-index l.names))));
  faults : g.F.Files.faults l.files ≡ g.F.Files.faults l.fn.files;
  sure : g.F.Files.is_sure l.files ≡ g.F.Files.is_sure l.fn.files;
}
