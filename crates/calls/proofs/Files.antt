-- Descriptors name files that were made, and still do once more are.
use Rattle.std.proofs.Common.{ℕ, ◌≤◌, List, Option, Some, None, arith}
use Rattle.disk_model.proofs.Lists.{each_more}
use Rattle.kernel_model.specs.Rows.{descriptor_at}
use Rattle.kernel_model.specs.declared.descriptor.Descriptor.{Descriptor}
use Rattle.kernel_model.specs.declared.descriptor.Descriptor.TheVariants as descriptor
use Rattle.kernel_model.proofs.Limits.{each_at}
use Rattle.calls.specs.Plans.{NamesFile, NamesFiles}

NamesFile-more : (n m : ℕ) → n ≤ m → (d : Option Descriptor) → NamesFile n d → NamesFile m d
NamesFile-more n m le (Some (descriptor.File file offset writes)) h = omega arith
NamesFile-more n m le (Some (descriptor.Tape t)) h = tt
NamesFile-more n m le (Some (descriptor.Terminal t)) h = tt
NamesFile-more n m le (Some (descriptor.Pipe end)) h = tt
NamesFile-more n m le None h = tt

pub NamesFiles-more : (n m : ℕ) → n ≤ m → (ds : List (Option Descriptor)) → NamesFiles n ds → NamesFiles m ds
NamesFiles-more n m le ds h = each_more (NamesFile n) (NamesFile m) (NamesFile-more n m le) ds h

pub NamesFile-descriptor_at : (n : ℕ) (ds : List (Option Descriptor)) (fd : ℕ) → NamesFiles n ds → NamesFile n (descriptor_at ds fd)
NamesFile-descriptor_at n ds fd h = each_at (NamesFile n) tt ds fd h
