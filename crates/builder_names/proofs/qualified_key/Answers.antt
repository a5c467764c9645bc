-- `qualified_key` meets its contract: the owner's parent and `::` are the head; they fall away with the rest of the owner.
use mathlib.Core.Path.{refl}
use Rattle.builder_names.proofs.Qualified.{key_none, key_empty, key_behind, key_joined}
use Rattle.builder_names.proofs.qualified_key.Goals as goal

pub returns-in_err-i : goal.returns-in_err-i
returns-in_err-i c = rw c.from_residual.ensures (key_none _ _ c.in_err-i.ensures.parts)

pub returns-then-same_name : goal.returns-then-same_name
returns-then-same_name c = key_empty _ _ _ c.in_ok-i.ensures.parts c.split_at.ensures.back c.if-same_name.ensures refl refl

pub returns-in-Some : goal.returns-in-Some
returns-in-Some c =
    key_behind _ _ _ c.in_ok-i.ensures.parts c.split_at.ensures.back c.if-same_name.ensures c.in-Some.ensures.0 c.in-Some.ensures.1
    refl refl

pub returns-in-None : goal.returns-in-None
returns-in-None c =
    key_joined _ _ _ c.in_ok-i.ensures.parts c.split_at.ensures.back c.if-same_name.ensures c.in-None.ensures c.split_at.ensures.front refl
