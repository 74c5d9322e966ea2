-- The slots found so far and the children from here on are all the children.
use Rattle.std.proofs.Common.{◌≡◌, ℕ, List, ◌+◌, ◌≤◌, ◌++◌, length, drop}
use Rattle.std.specs.List.{filter_map, enumerate_from}
use Rattle.gh_base.specs.declared.cap_word.CapWord.{CapWord}
use Rattle.gh_cspace.specs.Cspace.{children, child_slot}
use Rattle.gh_cspace.proofs.cspace.Cspace.children.Given as goal

pub record Found (found : List ℕ) (object : ℕ) (words : List CapWord) (place : ℕ) : Type 0 where
  pub rest : found ++ filter_map (child_slot object) (enumerate_from (place + 1) (drop place words)) ≡ children object words
  pub room : length found ≤ place

abbrev pub invariant-loop-place : goal.invariant-loop-place
invariant-loop-place l = Found l.slots.items l.object.0 l.word-items l.place
