-- What callers see of files and of a sink over a system's calls.
use Rattle.std.specs.Prelude.{ℕ, List}
use Rattle.gh_io.specs.declared.files.Request.{Request}

-- files that are opened, what was asked for, and the count of faults
pub record FilesOf (D : Type 0) : Type 0 where
  pub disk : D
  pub asked : List Request
  pub faults : ℕ

-- a stream that is written, and the count of faults
pub record SinkOf (W : Type 0) : Type 0 where
  pub writer : W
  pub faults : ℕ
