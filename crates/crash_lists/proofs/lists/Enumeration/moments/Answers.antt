-- One file more has its moments.
use Rattle.std.proofs.Common.{rules, ◌≡◌, ◌∙◌, ℕ, List, Some, length, slice_get, get_or, subst, sym, ap}
use Rattle.std.specs.Prelude.{vec_len}
use Rattle.std.proofs.lemmas.Option.{get_or_from_slice_get}
use Rattle.disk_model.specs.Numbers.{Numbered}
use Rattle.disk_model.specs.declared.change.NamedFile.{NamedFile}
use Rattle.crash_lists.specs.Rules.{AreMoments}
use Rattle.crash_lists.specs.declared.cells.DiskFile.{DiskFile}
use Rattle.crash_lists.specs.declared.model.CrashModel.{CrashModel}
use Rattle.crash_lists.specs.declared.moments.FileMoments.{FileMoments}
use Rattle.crash_lists.specs.declared.window.Window.{Window}
use Rattle.crash_lists.proofs.Lived.{each_pushed}
use Rattle.crash_lists.proofs.lists.Enumeration.moments.Goals as goal

same_moments : (m m' : CrashModel) (w w' : List Numbered) (n n' k k' : ℕ) (b b' : List ℕ) (at : FileMoments)
    → m ≡ m' → w ≡ w' → n ≡ n' → k ≡ k' → b ≡ b' → AreMoments m w n k b at → AreMoments m' w' n' k' b' at
same_moments m m' w w' n n' k k' b b' at em ew en ek eb are =
    subst (λ (x : CrashModel). AreMoments x w' n' k' b' at) em
    (subst (λ (x : List Numbered). AreMoments m x n' k' b' at) ew
    (subst (λ (x : ℕ). AreMoments m w x k' b' at) en
    (subst (λ (x : ℕ). AreMoments m w n x b' at) ek
    (subst (λ (x : List ℕ). AreMoments m w n k x at) eb are))))

pub loop-file-preserved : goal.loop-file-preserved
loop-file-preserved c =
    let enumeration = c.args.self.now in
    let window = enumeration.window.now.moments.items in
    let files = c.args.listed.now.files in
    let numbered = c.args.listed.now.cells.files.items in
    let common = c.args.listed.now.cells.common in
    let near = c.file_near-near in
    let all = c.loop-file.all in
    let told = rw c.in-Some.is at c.in_ok-moments.ensures in
    let size : vec_len all ≡ length all.items = search rules in
    let last : (file : NamedFile) (of : DiskFile) → slice_get files (length all.items) ≡ Some file → slice_get numbered (length all.items) ≡ Some of
    → AreMoments enumeration.model window of.number common file.bytes c.in-Some.moments =
    λ file of stands numbers.
    let place : length all.items ≡ c.loop-file.file-index = sym size ∙ c.loop-file.invariant.count in
    let here : slice_get numbered c.loop-file.file-index ≡ Some of = subst (λ (k : ℕ). slice_get numbered k ≡ Some of) place numbers in
    let none : DiskFile = record { number = 0; apart = 0 } in
    let item = ap (λ (xs : List DiskFile). get_or xs c.loop-file.file-index none) c.deref-file-items.ensures.value ∙ get_or_from_slice_get numbered c.loop-file.file-index of none here in
    let counted : length all.items ≡ c.len.result = sym size ∙ sym c.len.ensures in
    same_moments _ _ _ _ _ _ _ _ _ _ _ near.ensures.model (ap (λ (w : Window). w.moments.items) near.ensures.window)
    (near.ensures.number ∙ ap (λ (d : DiskFile). d.number) item) near.ensures.common
    (c.bytes_at-bytes.ensures file (subst (λ (k : ℕ). slice_get files k ≡ Some file) counted stands)) told
    in
    record {
      count = search (rules, c.loop-file.invariant.count);
      each = λ place file of at stands numbers is.
          each_pushed
          (λ (k : ℕ) (x : FileMoments). (f : NamedFile) (o : DiskFile) → slice_get files k ≡ Some f → slice_get numbered k ≡ Some o → AreMoments enumeration.model window o.number common f.bytes x)
          all.items c.in-Some.moments (λ k x s f o sf so. c.loop-file.invariant.each k f o x sf so s) last place at
          (rw c.in_ok-push.ensures.items at is) file of stands numbers;
    }
