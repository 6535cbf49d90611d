-- What a page of one name says of a bucket.
use Rattle.std.proofs.Common.{◌≡◌, ◌==◌, ⊎_elim, ℕ, ◌+◌, ◌^◌, ◌<◌, ◌≤◌, Option, Some, None, IsSome, IfSome, List, [], ◌∷◌, length, refl, subst, arith}
use Rattle.std.proofs.Math.Numerals.{one-add}
use Rattle.std.specs.List.{before_first, slice_get}
use Rattle.label_sets.specs.Labels.{ComesBefore}
use Rattle.bucket_core.specs.Contents.{Contents, IsKey, nothing}
use Rattle.bucket_core.specs.Pages.{IsPage}
use Rattle.bucket_core.specs.Told.{BucketTold}
use Rattle.world_core.specs.Worlds.{IsTrueOf, IsCountedWorld}
use Rattle.world_core.specs.Standing.{stands, Tells}
use Rattle.world_core.specs.Operations.{IsLawful, IsReplyTo, PutsBytes, ShowsBytes}
use Rattle.world_core.specs.Moments.{moment_after, last_moment}
use Rattle.world_core.proofs.Growing.{Each-none}
use Rattle.world_core.specs.declared.entry.Entry.{Entry}
use Rattle.moment_core.specs.Limits.{longest_tick}

-- a key's name at the root is not empty
named : (key : List ℕ) → IsKey key → ComesBefore [] (before_first (λ byte. byte == 47) key)
named [] is_key = absurd (cc)
named (first ∷ others) is_key = rw (is_key, one-add) refl

-- a bucket whose first page is empty holds nothing
none_stands : (c : Contents) → ((key : List ℕ) → IsSome (c key) → IsKey key) → IsPage c [] [] 1 [] → (key : List ℕ) (o : Option (List ℕ)) → c key ≡ o → o ≡ None
none_stands c keys page key None is = refl
none_stands c keys page key (Some bytes) is =
    let some : IsSome (c key) = rw is refl in
    absurd (⊎_elim (λ h. omega (arith, h.1)) (λ h. omega (arith, h.0)) (page.whole (before_first (λ byte. byte == 47) key) (key, some, refl) (named key (keys key some))))

empty_page : (c : Contents) → ((key : List ℕ) → IsSome (c key) → IsKey key) → IsPage c [] [] 1 [] → c ≡ nothing
empty_page c keys page = λ i key. none_stands c keys page key (c key) refl i

pub opened_empty : (o : Option Contents) (names : List (List ℕ)) → ((c : Contents) (key : List ℕ) → o ≡ Some c → IsSome (c key) → IsKey key) → slice_get names 0 ≡ None → IfSome o (λ c. IsPage c [] [] 1 names) → IfSome o (λ c. c ≡ nothing)
opened_empty None names keys none page = tt
opened_empty (Some c) [] keys none page = empty_page c (λ key some. keys c key refl some) page
opened_empty (Some c) (n ∷ more) keys none page = absurd (cc)

-- a page of limit 1 has its first name alone
lone_name : (c : Contents) (names : List (List ℕ)) (name : List ℕ) → slice_get names 0 ≡ Some name → IsPage c [] [] 1 names → IsPage c [] [] 1 (name ∷ [])
lone_name c [] name first page = absurd (cc)
lone_name c (n ∷ []) name first page = let same : n ≡ name = cc in subst (λ m. IsPage c [] [] 1 (m ∷ [])) same page
lone_name c (n ∷ m ∷ more) name first page = absurd (omega (arith, page.few))

pub not_opened : (o : Option Contents) (names : List (List ℕ)) (name : List ℕ) → slice_get names 0 ≡ Some name → IfSome o (λ c. IsPage c [] [] 1 names) → IfSome o (λ c. IsPage c [] [] 1 (name ∷ []))
not_opened None names name first page = tt
not_opened (Some c) names name first page = lone_name c names name first page

-- a new world
opened_true : (old new : Option Contents) → new ≡ old → IfSome old (λ c. c ≡ nothing) → IfSome new (λ c. IsTrueOf c [])
opened_true None new same empty = rw same tt
opened_true (Some c) new same empty = rw same (record { honest = Each-none (λ before x. Tells (stands before) x.op x.reply); held = empty })

pub opened_sound : {B : Type 0} (tells : B → BucketTold) (old new : B) (journal : List Entry) (tick : ℕ) → journal ≡ [] → tick ≤ longest_tick → (tells new).contents ≡ (tells old).contents → IfSome (tells old).contents (λ c. c ≡ nothing) → IsCountedWorld tells new journal tick 0 0
opened_sound tells old new journal tick none short same empty =
    rw none (record {
      counted = record { short = short; latest = refl; bound = omega arith; size = omega arith };
      world = record {
        journal = record {
          few = omega arith;
          numbered = Each-none (λ before x. x.seq ≡ length before + 1);
          lawful = Each-none (λ before x. IsLawful x.op);
          kinds = Each-none (λ before x. IsReplyTo x.op x.reply);
          moments = Each-none (λ before x. x.moment.ms ≡ moment_after tick (last_moment before) x.op);
          small = Each-none (λ before x. x.moment.ms < 2 ^ 48);
        };
        bytes = Each-none (λ before x. PutsBytes x.op × ShowsBytes x.reply);
        failures = omega arith;
        honest = opened_true (tells old).contents (tells new).contents same empty;
      };
    })
