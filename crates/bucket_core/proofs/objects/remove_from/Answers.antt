use Rattle.std.proofs.Common.{List, subst, sym}
use Rattle.std.proofs.lemmas.Bool.{iff_false}
use Rattle.bucket_core.specs.declared.objects.Stored.{Stored}
use Rattle.bucket_core.specs.Stored.{IsPlace, IsUpdated, StandsAt}
use Rattle.std.specs.Prelude.{None}
use Rattle.bucket_core.proofs.AtPlace.{removed_at, absent_at, untouched}
use Rattle.bucket_core.proofs.objects.remove_from.Goals as goal

pub returns-then-stands_at : goal.returns-then-stands_at
returns-then-stands_at c =
    let at : IsPlace c.args.key.now c.args.objects.now.items c.place_of-place.result =
    subst (λ (l : List Stored). IsPlace c.args.key.now l c.place_of-place.result) c.as_slice.ensures.value c.place_of-place.ensures in
    let stands : StandsAt c.args.key.now c.args.objects.now.items c.place_of-place.result =
    subst (λ (l : List Stored). StandsAt c.args.key.now l c.place_of-place.result) c.as_slice-2.ensures.value (c.stands_at.ensures.0 c.if-stands_at.true) in
    subst (λ (l : List Stored). IsUpdated c.args.key.now None c.args.objects.now.items l) (sym c.remove.ensures.items)
    (removed_at c.args.key.now c.args.objects.now.items c.place_of-place.result c.remove.result c.requires.ordered c.requires.keys at stands)

pub returns-else-stands_at : goal.returns-else-stands_at
returns-else-stands_at c =
    let at : IsPlace c.args.key.now c.args.objects.now.items c.place_of-place.result =
    subst (λ (l : List Stored). IsPlace c.args.key.now l c.place_of-place.result) c.as_slice.ensures.value c.place_of-place.ensures in
    untouched c.args.key.now c.args.objects.now.items c.requires.ordered c.requires.keys
    (absent_at c.args.key.now c.args.objects.now.items c.place_of-place.result c.requires.ordered at
    (λ stands. iff_false c.stands_at.ensures c.if-stands_at.false
    (subst (λ (l : List Stored). StandsAt c.args.key.now l c.place_of-place.result) (sym c.as_slice-2.ensures.value) stands)))
