use Rattle.block_keys.specs.Blocks.{IsBlock}
use Rattle.lifecycle_core.specs.Shipped.{IsRefused, IsShipped}
use Rattle.script_running.proofs.Shelves.{built_holds, built_refuses, shelf_blocks, shelf_refuses, shelf_ships}
use Rattle.script_running.proofs.plan.objects_of.Goals as goal

pub returns-in-Inline-clause-block : goal.returns-in-Inline-clause-block
returns-in-Inline-clause-block c = built_holds (IsBlock c.args.block.now.ulid) c.inline_objects.result c.from_built.result c.from_built.ensures c.inline_objects.ensures.block

pub returns-in-Inline-clause-shipped : goal.returns-in-Inline-clause-shipped
returns-in-Inline-clause-shipped c = λ setting known. built_holds (IsShipped setting c.args.block.now) c.inline_objects.result c.from_built.result c.from_built.ensures (c.inline_objects.ensures.shipped setting)

pub returns-in-Inline-clause-refused : goal.returns-in-Inline-clause-refused
returns-in-Inline-clause-refused c = λ setting known. built_refuses (IsRefused setting c.args.block.now) c.inline_objects.result c.from_built.result c.from_built.ensures (c.inline_objects.ensures.refused setting)

pub returns-in-OnShelf-clause-block : goal.returns-in-OnShelf-clause-block
returns-in-OnShelf-clause-block c = shelf_blocks c.requires.known.0 c.args.block.now c.args.shelf.now c.in-OnShelf.is c.requires.known.1 c.shelf_objects.result c.shelf_objects.ensures

pub returns-in-OnShelf-clause-shipped : goal.returns-in-OnShelf-clause-shipped
returns-in-OnShelf-clause-shipped c = λ setting known. shelf_ships setting c.args.block.now c.args.shelf.now c.in-OnShelf.is known c.shelf_objects.result c.shelf_objects.ensures

pub returns-in-OnShelf-clause-refused : goal.returns-in-OnShelf-clause-refused
returns-in-OnShelf-clause-refused c = λ setting known. shelf_refuses setting c.args.block.now c.args.shelf.now c.in-OnShelf.is known c.shelf_objects.result c.shelf_objects.ensures
