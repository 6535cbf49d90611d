-- A block is uploaded twice. The put of its meta fails at the first time, and has landed or not. The script is
--
--     block 0000000000000000000000000A 1000 2000 {}
--     series {__name__="up"} 1000:3ff0000000000000
--     at 0
--     upload 0000000000000000000000000A
--     at 1
--     upload 0000000000000000000000000A
use Rattle.std.specs.Prelude.{Bool, true, false, List, [], ◌∷◌, ◌++◌, None}
use Rattle.block_keys.specs.declared.key.Key.TheVariants as key
use Rattle.moment_core.specs.StandardRules.{standard_rules}
use Rattle.world_core.specs.declared.entry.Entry.{Entry}
use Rattle.world_core.specs.declared.op.Op.TheVariants as op
use Rattle.world_core.specs.declared.reply.Reply.TheVariants as reply
use Rattle.shipper.specs.declared.upload.UploadEnd.TheVariants as shipped
use Rattle.script_core.specs.declared.script.Script.{Script}
use Rattle.script_workers.specs.declared.work.Work.TheVariants.{Upload}
use Rattle.lifecycle_core.specs.Setting.{Setting, setting_of}
use Rattle.lifecycle_core.specs.Tasks.{End, uploaded}
use Rattle.tests_worked.specs.SmallBlock as small
use Rattle.tests_worked.specs.Entries.{absent, entry, found, stored}

abbrev pub script : Script
script = record {
  rules = standard_rules;
  gateways = [];
  partitions = [];
  blocks = small.block ∷ [];
  selectors = [];
  phases =
      record {
        line = 3;
        moment = record { ms = 0 };
        tasks =
            record { line = 4; work = Upload small.a None }
            ∷ [];
      }
      ∷ record {
        line = 5;
        moment = record { ms = 1 };
        tasks =
            record { line = 6; work = Upload small.a None }
            ∷ [];
      }
      ∷ [];
}

abbrev pub setting : Setting
setting = setting_of script

-- the put of the meta, which fails
abbrev pub failed_put : Bool → Entry
failed_put landed = entry 5 1 4 (op.Put (key.Meta small.a) small.meta) (reply.Failed landed)

abbrev pub first_clock : Entry
first_clock = entry 1 0 0 (op.Clock (record { ms = 0 })) reply.Clocked

-- the clock does not go back: it is set to 1, and stands at 4
abbrev pub second_clock : Entry
second_clock = entry 6 0 4 (op.Clock (record { ms = 1 })) reply.Clocked

-- what the first upload does before that
abbrev pub puts : List Entry
puts =
    absent 2 1 1 (key.Meta small.a)
    ∷ stored 3 1 2 (key.Segment small.a 1) small.segment
    ∷ stored 4 1 3 (key.Index small.a) small.index
    ∷ []

-- the look of the second upload, which finds the meta
abbrev pub look : Entry
look = found 7 2 5 (key.Meta small.a) small.meta

-- where the put has landed
abbrev pub journal : List Entry
journal = first_clock ∷ puts ++ failed_put true ∷ second_clock ∷ look ∷ []

abbrev pub ends : List (List (List End))
ends = ((uploaded (shipped.Fault 5) ∷ []) ∷ []) ∷ ((uploaded shipped.Already ∷ []) ∷ []) ∷ []

-- where it has not, up to its entry
abbrev pub lost : List Entry
lost = first_clock ∷ puts ++ failed_put false ∷ []
