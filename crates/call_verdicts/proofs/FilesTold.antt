-- What is told of the files of a call's shelf is what the shelf tells, as it was opened and as it is handed back.
use Rattle.std.proofs.Common.{◌≡◌, ℕ, List, refl, sym, subst}
use Rattle.std.specs.Prelude.{Option, Some, None, IfSome, is_some, option_map}
use Rattle.bucket_core.specs.Contents.{Contents}
use Rattle.bucket_core.specs.Told.{ShelfTold, SiteTold, next_shelf}
use Rattle.call_verdicts.specs.Checks.{files_held, files_in, files_of, told_first}
use Rattle.call_verdicts.specs.Kept.{IsShelfBack, told_of}

itself : (told : Option Contents) → IfSome told (λ c. told ≡ Some c)
itself None = tt
itself (Some c) = refl

first_back : (told own now : Option Contents) → IfSome told (λ c. own ≡ Some c) → now ≡ own → IfSome (told_first told now) (λ c. own ≡ Some c)
first_back None own now back same = subst (λ (o : Option Contents). IfSome o (λ c. own ≡ Some c)) (sym same) (itself own)
first_back (Some c) own now back same = back

pub files_back : {F : Type 0} (tells : F → ShelfTold) (site : SiteTold) (word : Option (List ℕ)) (shelf after : Option F) → is_some shelf ≡ is_some word → IsShelfBack (told_of (next_shelf site) word) tells shelf
    → option_map (files_held tells) after ≡ option_map (files_held tells) shelf → IfSome (files_of tells site word after) (λ c. files_in tells shelf ≡ Some c)
files_back tells site None None after named back same = refl
files_back tells site (Some name) None after named back same = absurd (cc named)
files_back tells site None (Some s) after named back same = absurd (cc named)
files_back tells site (Some name) (Some s) None named back same = absurd (cc same)
files_back tells site (Some name) (Some s) (Some t) named back same =
    let held : (tells t).files ≡ (tells s).files = cc in
    first_back (next_shelf site name) (tells s).files (tells t).files back held
