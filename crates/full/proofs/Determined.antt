-- Any two outcomes that the statement of the full build allows are one, up to the filling of the cells. Assumes
-- nothing.
use mathlib.Core.Path.{sym, ◌∙◌}
use Rattle.items.specs.Items.{handle_items, handle_splits}
use Rattle.maps.proofs.Determined.{fillings_alike}
use Rattle.call.proofs.Determined.{calls_alike}
use Rattle.verdicts.proofs.Determined.{ends_alike}
use Rattle.full.specs.Determined.{BuildDetermined}
use Rattle.full.proofs.Jamming.{first_jam_one, jam_not_none}

pub build_determined : BuildDetermined
build_determined keys b s S v S₁ v' S₂ B B' =
    let E = ends_alike (λ m p m' p'. first_jam_one) (λ m p. jam_not_none) v v' B B' in
    record {
      answer = E.answer;
      refused = E.refused;
      cells = λ t. let F = E.filled t in
          calls_alike keys b s.one s.two S.cells S₁.cells S₂.cells F.0.call F.1.call;
      handles = λ t. let F = E.filled t in
          fillings_alike s.three (handle_items keys) (handle_splits keys) S.handles S₁.handles S₂.handles
          F.0.neighbour.handles F.1.neighbour.handles;
      lefts = E.same (λ T. T.left) (λ T U F G. F.neighbour.left ∙ sym G.neighbour.left);
      rights = E.same (λ T. T.right) (λ T U F G. F.neighbour.right ∙ sym G.neighbour.right);
      works = E.same (λ T. T.work) (λ T U F G. F.work ∙ sym G.work);
      lengths = E.same (λ T. T.lengths) (λ T U F G. F.neighbour.lengths ∙ sym G.neighbour.lengths);
    }
