-- What standard error is told of a call, by its status: nothing where there is a report or a verdict, how the program is
-- called where the words are no form of a call, and else one line that says what to do.
use Rattle.std.specs.Prelude.{ℕ, List, [], ◌++◌, codes}
use Rattle.base.specs.Lines.{newline}
use Rattle.replay_cli.specs.call_verdicts.specs.declared.status.Status.{Status}
use Rattle.replay_cli.specs.call_verdicts.specs.declared.status.Status.TheVariants.{Done, WordsRefused, ScriptRefused, SourceFault, SinkFault, ActivityFailed, NoMemory, BucketNotEmpty, JournalFull, SiteFault}

-- a line of these words
abbrev pub line : List ℕ → List ℕ
line words = words ++ newline

-- how the program is called, a line a form, and what stands for the words
abbrev pub usage : List ℕ
usage =
    line (codes "usage: tosraem serial BUCKET SHELF < SCRIPT    runs a script, one activity after another")
    ++ line (codes "       tosraem replay BUCKET SHELF < SCRIPT    runs it with those of one phase beside each other, in threads")
    ++ line (codes "       tosraem check SHELF ULID                checks one block, as a shipper does before it ships")
    ++ line (codes "       tosraem generate NUMBER                 runs a day that the program makes itself")
    ++ line (codes "BUCKET is the word memory, or a folder that is new or empty. SHELF is the word none, or a folder of blocks.")
    ++ line (codes "ULID is the name of a block's folder: 26 characters, upper case.")
    ++ line (codes "This is version 0.1. README.md says more.")

abbrev pub advice_of : Status → List ℕ
advice_of Done = []
advice_of ActivityFailed = []
advice_of WordsRefused = usage
advice_of ScriptRefused = line (codes "The script was not run. docs/SCRIPT.md tells the causes under What is refused; bad rules speaks of the rule lines above the one that is named.")
advice_of SourceFault = line (codes "The script comes from standard input: see that it can be read, and run again.")
advice_of SinkFault = line (codes "The report goes to standard output: see that its reader stays and that there is room for it, and run again.")
advice_of NoMemory = line (codes "There was not enough memory: run again where there is more of it.")
advice_of BucketNotEmpty = line (codes "A run begins with an empty bucket, and this folder holds something: name a new one. (BUCKET comes first, SHELF second.)")
advice_of JournalFull = line (codes "The journal of one run has room for 1,048,576 operations and for a gibibyte of what they move: only a script that does less runs to its end.")
advice_of SiteFault = line (codes "BUCKET or SHELF could not be opened or read: see that SHELF is there, that both are folders, and that they may be read and BUCKET written.")
