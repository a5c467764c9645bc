-- What a proof by computation opens: `unfolding compute` unfolds every definition of this crate.
use Rattle.builder.specs.Names.{strip_prefix, normalize_path, canonical_name, rsplit_once, alternate_owner_aliases, qualify_parent_path, join, ends_with, trim_end, apply_path_prefix, replace_colons, split, before, before_element}
use Rattle.builder.specs.Registry.{◌>>=◌, give, refuse, require, need, reads, change, find_key, enter, ensure, ensure_all, extend_with, lookup_name, owner_parameters, add_synthetic, mark, mark_derived, firsts, into_parameters}
use Rattle.builder.specs.Nodes.{add_all, combine_checked_add, build_field_ref_nodes, operation_of, build_path, build_expr_ir, collect_paths, collect_callee_arguments, build_typeref_node, sum_over_array, build_element, build_elements, build_array_kind, select_array_owner, build_array_node, build_alternative, build_cases, build_switch, field_refs, mark_all, tag_lookup, computed_tag, enum_tag_parameter, enum_alternatives, build_enum_node, union_alternatives, build_union_node, sized_alternatives, build_size_discriminated_union_node, sum_refs, payload_paths, build_field_enum, build_field_refs, build_variable_field, build_field, padding, prefix_after, build_fields, build_variable_struct, build_variable, node_from_resolved}
use Rattle.builder.specs.BuildType.{has_jagged, is_jagged_element_parameter, filter_jagged_element_parameters, build_type_ir}
use Rattle.builder.specs.Build.{build_type, build_types, write_layout, build_set}

-- the name that stands for all of them
unfoldable pub compute : Unit {0}
unfolding strip_prefix normalize_path canonical_name rsplit_once alternate_owner_aliases qualify_parent_path join ends_with trim_end apply_path_prefix replace_colons split before before_element ◌>>=◌ give refuse require need reads change find_key enter ensure ensure_all extend_with lookup_name owner_parameters add_synthetic mark mark_derived firsts into_parameters add_all combine_checked_add build_field_ref_nodes operation_of build_path build_expr_ir collect_paths collect_callee_arguments build_typeref_node sum_over_array build_element build_elements build_array_kind select_array_owner build_array_node build_alternative build_cases build_switch field_refs mark_all tag_lookup computed_tag enum_tag_parameter enum_alternatives build_enum_node union_alternatives build_union_node sized_alternatives build_size_discriminated_union_node sum_refs payload_paths build_field_enum build_field_refs build_variable_field build_field padding prefix_after build_fields build_variable_struct build_variable node_from_resolved has_jagged is_jagged_element_parameter filter_jagged_element_parameters build_type_ir build_type build_types write_layout build_set
compute = tt
