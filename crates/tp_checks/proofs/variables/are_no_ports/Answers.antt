-- No parameter has the name of the next port, and at the end there is no other.
use Rattle.std.proofs.Common.{◌≡◌, ℕ, arith, ap, refl, sym, ◌∙◌, option_map, slice_get, Some, string_bytes, String, Global, true≢false}
use Rattle.std.proofs.{lemmas.List.length-map, lemmas.Option.slice_get-map, lemmas.Option.slice_get_within}
use Rattle.tp_config.specs.declared.port_type.{PortType.PortType, CompType.CompType}
use Rattle.tp_checks.specs.Scoping.{ports_in}
use Rattle.tp_checks.proofs.{NameLookupsAreUnique.absent_place, NameLookupsAreUnique.contained_at, PortNamesGrowth.ports_more}
use Rattle.tp_checks.proofs.variables.are_no_ports.Goals as goal

-- the name of the port at this place
name_here : (ports : CompType) (k : ℕ) (e : String Global × PortType) → Some e ≡ slice_get ports.ports.entries k
    → slice_get (ports_in ports).names k ≡ Some (string_bytes e.0)
name_here ports k e is = slice_get-map (λ e. string_bytes e.0) ports.ports.entries k ∙ ap (option_map (λ e. string_bytes e.0)) (sym is)

pub loop-place-preserved : goal.loop-place-preserved
loop-place-preserved c =
    ports_more (ports_in c.args.scope.now.component_type.now).names c.args.scope.now.parameters.now c.loop-place.place (string_bytes c.in-Some.name.now)
    (name_here c.args.scope.now.component_type.now c.loop-place.place _ c.in-Some.ensures.entry)
    (rw c.as_str.ensures.value at c.in-None.ensures.absent) c.loop-place.invariant

pub returns-in_default-find-clause-apart : goal.returns-in_default-find-clause-apart
returns-in_default-find-clause-apart c = (
  λ h. absurd (true≢false (sym h)),
  λ h. absurd (absent_place c.args.scope.now.parameters.now (string_bytes c.in-Some.name.now) _
      (h c.loop-place.place (string_bytes c.in-Some.name.now) (name_here c.args.scope.now.component_type.now c.loop-place.place _ c.in-Some.ensures.entry))
      (rw c.as_str.ensures.value at c.in_default-find.ensures.there)),
)

pub returns-in_default-find-clause-twice : goal.returns-in_default-find-clause-twice
returns-in_default-find-clause-twice c =
    let name = string_bytes c.in-Some.name.now in
    let port = name_here c.args.scope.now.component_type.now c.loop-place.place _ c.in-Some.ensures.entry in
    let there = rw c.as_str.ensures.value at c.in_default-find.ensures.there in (
      name,
      contained_at (ports_in c.args.scope.now.component_type.now).names name c.loop-place.place port,
      contained_at c.args.scope.now.parameters.now name _ there.there,
    )

pub returns-clause-apart : goal.returns-clause-apart
returns-clause-apart c =
    let entries = c.args.scope.now.component_type.now.ports.entries in (
      λ t k name there.
          let within = slice_get_within (ports_in c.args.scope.now.component_type.now).names k name there in
          c.loop-place.invariant k name (omega (arith, within, length-map entries (λ e. string_bytes e.0), c.len-place-end.ensures)) there,
      λ h. refl,
    )
