use Rattle.std.proofs.Common.{refl}
use Rattle.g1_report.specs.Program.{texts, kind_said}
use Rattle.std.proofs.lemmas.Cmp.{nat_cmp_total, nat_list_cmp_total}
use Rattle.g1_image.proofs.Written.{on_ok}
use Rattle.g1_report.proofs.Sorting.{put_read}
use Rattle.g1_report.proofs.names.Names.sort.Goals as goal

pub returns : goal.returns
returns c =
    let s = c.args.self.now in
    on_ok c.sort_by_name-2.result _ _ (λ last. record {
      roots = put_read nat_cmp_total (λ line. (line.0, line.1.now)) (λ line. line.0) s.roots.items c.sort_by_place.new.list.items c.in_ok-sort_by_place.ensures;
      types = put_read nat_list_cmp_total (λ line. (line.0.now, texts line.1.items)) (λ line. line.0) s.types.items c.sort_by_name.new.list.items c.in_ok-sort_by_name.ensures;
      labels = put_read nat_cmp_total (λ line. (line.0, line.1.now)) (λ line. line.0) s.labels.items c.sort_by_place-2.new.list.items c.in_ok-sort_by_place-2.ensures;
      texts = put_read nat_cmp_total (λ line. (line.0, texts line.1.items)) (λ line. line.0) s.texts.items c.sort_by_place-3.new.list.items c.in_ok-sort_by_place-3.ensures;
      objects = put_read nat_cmp_total (λ line. (line.0, kind_said line.1)) (λ line. line.0) s.objects.items c.sort_by_place-4.new.list.items c.in_ok-sort_by_place-4.ensures;
      named = put_read nat_list_cmp_total (λ line. (line.0.now, kind_said line.1)) (λ line. line.0) s.named.items c.sort_by_name-2.new.list.items last;
      labels_before = refl;
    }) c.sort_by_name-2.ensures
