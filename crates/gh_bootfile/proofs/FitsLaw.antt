-- What is read as a boot file meets the conditions of boot files. For callers.
use Rattle.std.proofs.Common.{◌≡◌, ℕ, true, List, Ok}
use Rattle.gh_model.specs.declared.boot_line.BootLine.{BootLine}
use Rattle.gh_model.specs.Boot.{boot_fits}
use Rattle.gh_bootfile.specs.BootFile.{boot_of}
use Rattle.gh_bootfile.proofs.FileLaw.{boot_read}

pub boot_of_fits : (text : List ℕ) (lines : List BootLine) → boot_of text ≡ Ok lines → boot_fits lines ≡ true
boot_of_fits text lines read = (boot_read text lines read).fits
