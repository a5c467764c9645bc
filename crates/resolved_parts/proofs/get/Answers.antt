-- `get` meets its contract: the first block of the name is the owner, and its paths stand behind its name.
use native.Mathlib.Omega.{arith}
use Rattle.resolved_parts.proofs.Owners.{references_inside, owners_stand, owner_there, paths_there, paths_missing}
use Rattle.resolved_parts.proofs.get.Goals as goal

pub overflow_add-references : goal.overflow_add-references
overflow_add-references c = omega (arith, references_inside c.requires)

pub list_at-owners-requires : goal.list_at-owners-requires
list_at-owners-requires c = references_inside c.requires

pub block_named-requires : goal.block_named-requires
block_named-requires c = owners_stand c.requires c.list_at-owners.ensures.count c.list_at-owners.ensures.first

pub returns-in_err-owner : goal.returns-in_err-owner
returns-in_err-owner c =
    rw c.from_residual.ensures (paths_missing _ c.list_at-owners.ensures.count c.list_at-owners.ensures.first c.in_err-owner.ensures)

pub owner_paths-requires : goal.owner_paths-requires
owner_paths-requires c =
    owner_there _ c.list_at-owners.ensures.count c.list_at-owners.ensures.first c.in_ok-owner.ensures c.requires

pub returns : goal.returns
returns c =
    paths_there _ c.list_at-owners.ensures.count c.list_at-owners.ensures.first c.in_ok-owner.ensures c.owner_paths.ensures c.requires
