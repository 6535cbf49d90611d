-- Two blocks that differ in the replica label alone. They share one sample, and each has one that the other has not. The script is
--
--     rule replica-label replica
--     gateway g
--     block 0000000000000000000000000A 1000 4000 {replica="0"}
--     series {a="x"} 1000:0000000000000001 3000:0000000000000003
--     block 0000000000000000000000000B 1000 4000 {replica="1"}
--     series {a="x"} 1000:0000000000000001 2000:0000000000000002
use Rattle.std.specs.Prelude.{ℕ, ℤ, pos, List, [], ◌∷◌, codes, None}
use Rattle.label_sets.specs.declared.label.Label.{Label}
use Rattle.label_sets.specs.declared.sample.Sample.{Sample}
use Rattle.label_sets.specs.Triples.{Triple}
use Rattle.moment_core.specs.Partitions.{all_times}
use Rattle.moment_core.specs.StandardRules.{minutes, hours}
use Rattle.script_core.specs.declared.block.Block.{Block}
use Rattle.script_core.specs.declared.body.Body.TheVariants.{Inline}
use Rattle.script_core.specs.declared.script.Script.{Script}
use Rattle.lifecycle_core.specs.Guarantees.{Answered}
use Rattle.lifecycle_core.specs.Holdings.{Use}
use Rattle.lifecycle_core.specs.Setting.{Setting, setting_of}

abbrev pub labels : List Label
labels = record { name = codes "a"; value = codes "x" } ∷ []

abbrev pub sample : ℤ → ℕ → Sample
sample time pattern = record { time = time; pattern = pattern }

-- a block of one series, by its ULID, its replica and its samples
abbrev pub block : ℕ → List ℕ → List Sample → Block
block ulid replica samples = record {
  ulid = ulid;
  labels = record { name = codes "replica"; value = replica } ∷ [];
  body = Inline (pos 1000) (pos 4000) (record { labels = labels; samples = samples } ∷ []);
}

abbrev pub script : Script
script = record {
  rules = record {
    consistency = minutes 30;
    ignore = hours 24;
    delete = hours 48;
    partial = hours 48;
    upload = minutes 30;
    tick = record { ms = 1 };
    page_limit = 1_000;
    replicas = codes "replica" ∷ [];
    retention = None;
  };
  gateways = codes "g" ∷ [];
  partitions = all_times ∷ [];
  blocks =
      block 10 (codes "0") (sample (pos 1000) 1 ∷ sample (pos 3000) 3 ∷ [])
      ∷ block 11 (codes "1") (sample (pos 1000) 1 ∷ sample (pos 2000) 2 ∷ [])
      ∷ [];
  selectors = [] ∷ [];
  phases = [];
}

abbrev pub setting : Setting
setting = setting_of script

-- a sample of the answer, without the replica label
abbrev pub triple : ℤ → ℕ → Triple
triple time pattern = record { labels = labels; time = time; pattern = pattern }

abbrev pub shared : Triple
shared = triple (pos 1000) 1

abbrev pub of_other : Triple
of_other = triple (pos 2000) 2

abbrev pub of_one : Triple
of_one = triple (pos 3000) 3

-- the answer of these samples, where the gateway names both blocks
abbrev pub answered : Use → List Triple → Answered
answered used samples = record {
  selector = [];
  named = record { gateway = 0; used = used; low = pos 0; high = pos 5000; sources = 10 ∷ 11 ∷ [] } ∷ [];
  samples = samples;
}
