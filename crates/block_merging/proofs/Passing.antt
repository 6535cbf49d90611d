-- A block of level 1 that is its own only source passes once it is written, unless it has no series.
use Rattle.std.proofs.Common.{◌≡◌, List, [], ◌∷◌, refl, sym, ap, subst, ◌∙◌}
use Rattle.std.specs.List.{AllZip}
use Rattle.std.specs.Prelude.{◌≢◌}
use Rattle.label_sets.specs.declared.series.Series.{Series}
use Rattle.block_meta.specs.declared.block_plan.BlockPlan.{BlockPlan}
use Rattle.block_meta.specs.MetaFields.{MetaFields}
use Rattle.index_parts.specs.declared.index_series.IndexSeries.{IndexSeries}
use Rattle.index_parts.specs.IndexFile.{IsIndex}
use Rattle.block_meta.specs.declared.block_files.BlockFiles.{BlockFiles}
use Rattle.block_writing.specs.Put.{PutSeries, PlanFields, Put}
use Rattle.block_writing.specs.Writing.{plan_fields}
use Rattle.block_writing.specs.Files.{IsListed}
use Rattle.block_writing.specs.WrittenMeta.{meta_with, IsWritten}
use Rattle.block_writing.specs.Built.{IsPutAs, IsBuilt}
use Rattle.block_content.specs.Named.{NamesFew}
use Rattle.block_content.specs.Checking.{IsOwn, Passes, RefusesBlock}
use Rattle.block_content.specs.declared.check_refusal.CheckRefusal.TheVariants.{EmptyBlock}
use Rattle.block_merging.specs.PutContent.{AreSeriesOf, IsFirstLevel}
use Rattle.block_merging.proofs.Content.{written_holds, built_series}

own_meta : (put : Put) (files : BlockFiles) → IsWritten put files → IsFirstLevel put.plan → IsOwn put.plan.ulid files.meta
unfolding meta_with
own_meta put files is own = record {
  ulid_is = ap (λ (f : MetaFields). f.ulid) is.meta;
  first_level = ap (λ (f : MetaFields). f.level) is.meta ∙ own.level;
  one_source = ap (λ (f : MetaFields). f.sources) is.meta ∙ own.source;
  sampled = ap (λ (f : MetaFields). f.resolution) is.meta;
}

none_of : (puts : List PutSeries) (list : List Series) → AreSeriesOf puts list → list ≡ [] → puts ≡ []
none_of [] list are none = refl
none_of (p ∷ puts) [] are none = absurd are
none_of (p ∷ puts) (s ∷ list) are none = absurd cc

none_listed : (puts : List PutSeries) (listed : List IndexSeries) → AllZip IsListed puts listed → puts ≡ [] → listed ≡ []
none_listed [] [] are none = refl
none_listed [] (s ∷ listed) are none = absurd are
none_listed (p ∷ puts) listed are none = absurd cc

pub written_passes : (put : Put) (files : BlockFiles) (list : List Series) → IsWritten put files → IsFirstLevel put.plan → put.series ≢ [] → AreSeriesOf put.series list → NamesFew files → Passes put.plan.ulid files list
written_passes put files list is own some are few = record {
  own = own_meta put files is own;
  content = written_holds put files list is are;
  some = λ none. some (none_of put.series list are none);
  few = few;
}

pub written_empty : (put : Put) (files : BlockFiles) → IsWritten put files → IsFirstLevel put.plan → put.series ≡ [] → RefusesBlock put.plan.ulid files EmptyBlock
written_empty put files is own none = (own_meta put files is own, subst (IsIndex files.index) (none_listed put.series is.files.listed is.files.series_are none) is.indexed)

-- ---- a block that is built

abbrev First : PlanFields → Type 0
First plan = IsFirstLevel plan

none_built : (list : List Series) (puts : List PutSeries) → AreSeriesOf puts list → puts ≡ [] → list ≡ []
none_built [] puts each none = refl
none_built (s ∷ list) [] each none = absurd each
none_built (s ∷ list) (p ∷ puts) each none = absurd cc

pub built_passes : (plan : BlockPlan) (series : List Series) (files : BlockFiles) → IsBuilt plan series files → IsFirstLevel (plan_fields plan) → series ≢ [] → NamesFew files → Passes plan.ulid files series
built_passes plan series files is own some few =
    let are = built_series series is.put.series is.put_is.series_are in
    subst (λ (p : PlanFields). Passes p.ulid files series) is.put_is.plan_is
    (written_passes is.put files series is.block_is (subst First (sym is.put_is.plan_is) own) (λ none. some (none_built series is.put.series are none)) are few)

none_put : (puts : List PutSeries) → AllZip IsPutAs [] puts → puts ≡ []
none_put [] each = refl
none_put (p ∷ puts) each = absurd each

pub built_empty : (plan : BlockPlan) (files : BlockFiles) → IsBuilt plan [] files → IsFirstLevel (plan_fields plan) → RefusesBlock plan.ulid files EmptyBlock
built_empty plan files is own =
    subst (λ (p : PlanFields). RefusesBlock p.ulid files EmptyBlock) is.put_is.plan_is
    (written_empty is.put files is.block_is (subst First (sym is.put_is.plan_is) own) (none_put is.put.series is.put_is.series_are))
