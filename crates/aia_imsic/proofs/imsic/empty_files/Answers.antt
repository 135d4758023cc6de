use Rattle.std.proofs.Common.{◌≡◌, [], ◌∷◌, ◌++◌, length, All, sym, ap, subst, arith, length-append}
use Rattle.std.proofs.lemmas.List.Elements.{All-push}
use Rattle.aia_file.specs.InterruptFile.{SameFile, empty_file}
use Rattle.aia_file.specs.FileState.{FileState, shown}
use Rattle.aia_imsic.proofs.imsic.empty_files.Goals as goal

pub loop-place-preserved : goal.loop-place-preserved
loop-place-preserved c =
    let files = c.loop-place.files.items in
    let file = c.in_ok-new.field-0 in
    let so_far = c.loop-place.invariant in
    let items : c.push.new.self.items ≡ files ++ (file ∷ []) = c.in_ok-push.ensures.items in
    let IsEmpty = λ (f : FileState). SameFile (shown f) (empty_file c.args.n) in
    let IsWide = λ (f : FileState). f.n ≡ c.args.n in (
      omega (arith, ap length items, length-append files (file ∷ []), so_far.0),
      subst (All IsEmpty) (sym items) (All-push IsEmpty files file so_far.1 c.in_ok-new.ensures),
      subst (All IsWide) (sym items) (All-push IsWide files file so_far.2 c.in_ok-new.ensures.n),
    )
