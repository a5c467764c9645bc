-- A path that fits the buffer stands there whole.
use mathlib.Core.Path.{refl}
use Rattle.builder_expressions.proofs.Laws.{taken_length, written, buffer_made, path_stops, path_made}
use Rattle.builder_expressions.proofs.build_field_ref.Goals as goal

pub returns-then-is_buffer_size-clause-builds : goal.returns-then-is_buffer_size-clause-builds
returns-then-is_buffer_size-clause-builds c = buffer_made c.requires.1 _ _ _ c.is_buffer_size.ensures c.requires.0.standing.index c.if-is_buffer_size.true c.put_buffer_size-u.ensures.wrote

pub returns-then-joined_length-gt511-clause-builds : goal.returns-then-joined_length-gt511-clause-builds
returns-then-joined_length-gt511-clause-builds c = path_stops c.requires.1 _ _ _ c.is_buffer_size.ensures c.requires.0.standing c.requires.0.owned c.if-is_buffer_size.false
    c.joined_length.ensures c.if-joined_length-gt511.true

pub slice_bounds-path-end : goal.slice_bounds-path-end
slice_bounds-path-end c = written c.requires.1 _ c.requires.0.expression c.joined_length.ensures c.if-joined_length-gt511.false refl c.put_joined-end.ensures

pub slice_bounds-build_path-end : goal.slice_bounds-build_path-end
slice_bounds-build_path-end c = taken_length _ _ (written c.requires.1 _ c.requires.0.expression c.joined_length.ensures c.if-joined_length-gt511.false refl c.put_joined-end.ensures)

pub returns-clause-builds : goal.returns-clause-builds
returns-clause-builds c = path_made c.requires.1 _ _ _ c.is_buffer_size.ensures c.if-is_buffer_size.false c.joined_length.ensures
    c.if-joined_length-gt511.false refl c.put_joined-end.ensures c.build_path.ensures.builds
