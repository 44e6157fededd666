-- Every claim holds: its proof by name. Assumes nothing.
use mathlib.Core.Path.{◌≡◌, refl}
use mathlib.Core.List.{[], ◌∷◌, map}
use lib.ListN.{length}
use Rattle.layout.specs.State.{the_widths, the_offsets}
use Rattle.layout.proofs.TableTrips.{bytes_back, state_back, state_fits, bytes_long}
use Rattle.rules.specs.Engine.{short, ours}
use Rattle.rules.specs.Cases.{Case, cases, starred, starred_short}
use Rattle.rules.specs.TouchCases.{parts, forms, kinds, touches, touched_so, listed_so, words_first}
use Rattle.rules.specs.LookCases.{looks, looked_so}
use Rattle.rules.specs.RankCases.{ranks, ranked_so}
use Rattle.rules.specs.RetireCases.{retirements, retired_so}
use Rattle.rules.specs.ShortCases.{long_chain, short_chain, shorts, short_so}
use Rattle.rules.specs.Bounds.{bounds, at_bounds}
use Rattle.rules.specs.SoundCases.{fact_by_fact}
use Rattle.laws.proofs.Tested.{sound_tested}
use Rattle.laws.proofs.After.{accepted_sound, keeps_sound, retired_kept}
use Rattle.laws.proofs.Given.{codes_listed, follows_order}
use Rattle.laws.proofs.Records.{touch_back, formed_exactly, age_adds, aged_exactly, kind_exactly, touched_says, kinds_listed, list_filled}
use Rattle.laws.proofs.Touches.{cold_answers, touch_is_both, scan_keeps_coldness}
use Rattle.laws.proofs.Looks.{look_keeps, get_is_both, adopt_is_get, adopt_answers, adopt_never, cold_keeps}
use Rattle.laws.proofs.Codes.{given_exactly, accepted_exactly, spent_exactly, refused_keeps, refused_zeros, missing_named}
use Rattle.laws.proofs.Draining.{drain_delivers, drain_prefix, tries_within}
use Rattle.laws.proofs.Turns.{drain_ends}
use Rattle.laws.proofs.Tries.{drain_rises, tries_bounded, pending_bounded, budget_enough}
use Rattle.laws.proofs.Fitting.{ours_fits, short_fits}
use Rattle.laws.proofs.Sharing.{engine_free}
use Rattle.laws.proofs.Taken.{ranked_takes, short_takes}
use Rattle.answers.proofs.Chosen.{chosen}
use Rattle.laws.proofs.Retiring.{retire_retires, retire_bytes, nothing_lost}
use Rattle.causal.proofs.Progress.{run_causal}
use Rattle.causal.proofs.Vectors.{same_answers}
use Rattle.causal.proofs.Handed.{applied_exactly}
use Rattle.causal.proofs.Counted.{puts_counted}
use Rattle.causal.proofs.Anomaly.{anomalies}
use Rattle.demands.proofs.Proved.{demand1, demand2, demand3}
use Rattle.demands.proofs.Agreed.{agreement}
use Rattle.demands.proofs.Stores.{one_winner, drained_equal}
use Rattle.demands.proofs.Drained.{nothing_delivered}
use Rattle.demands.proofs.Schedule.{history, history_looking, history_adopting, history_winning, history_closing, causal}
use Rattle.answers.specs.NoSecond.{open_no_second, put_no_second, get_no_second, look_no_second, adopt_no_second, deliver_no_second, drain_no_second, touch_no_second, retire_no_second}
use Rattle.cold.specs.NoSecond.{cold_no_second}
use Rattle.forkcanyon.specs.NoSecond.{fc_open_no_second, fc_put_no_second, fc_get_no_second, fc_look_no_second, fc_adopt_no_second, fc_deliver_no_second, fc_drain_no_second, fc_touch_no_second, fc_retire_no_second}
use Rattle.forkcanyon.specs.ShortNoSecond.{fc_short_put_no_second, fc_short_get_no_second, fc_short_adopt_no_second, fc_short_touch_no_second, fc_short_deliver_no_second, fc_short_drain_no_second}
use Rattle.forkcanyon.specs.ColdNoSecond.{fc_cold_no_second}
use Rattle.table.specs.Worked as worked
use Rattle.reply.specs.Worked as replies
use Rattle.forkcanyon.proofs.Sizes.{wrong_reply, wrong_table, size_exactly, cold_hosts, list_written}
use Rattle.schedule.specs.Theorems.{play_no_second, written_no_second}
use Rattle.schedule.proofs.Rest.{rest_ignored, always_ends}
use Rattle.claims.specs.Claims.{Claims}

which : map (λ (c : Case). c.number) (cases []) ≡ 1 ∷ 3 ∷ 4 ∷ 5 ∷ 6 ∷ 7 ∷ 9 ∷ 10 ∷ 11 ∷ 12 ∷ 13 ∷ 15 ∷ 15 ∷ 0 ∷ []
unfolding cases
which = refl

how_many : length bounds ≡ 26
unfolding bounds
how_many = refl

ten : length touches ≡ 10
unfolding touches
ten = refl

eight : length looks ≡ 8
unfolding looks
eight = refl

five : length shorts ≡ 5
unfolding shorts
five = refl

six : length retirements ≡ 6
unfolding retirements
six = refl

six_ranks : length ranks ≡ 6
unfolding ranks
six_ranks = refl

pub claims : Claims
claims =
    record {
      demands = record { one = demand1 ours ours_fits; nothing_delivered = nothing_delivered; two = demand2; three = demand3 };
      stores = record { one_winner = one_winner; drained = drained_equal };
      engines = record { agreement = agreement; one_short = demand1 short short_fits; engine_free = engine_free; taken = (ranked_takes, short_takes); chosen = chosen };
      retirement = record { retires = retire_retires; in_bytes = retire_bytes; kept = retired_kept; nothing_lost = nothing_lost };
      histories =
          record {
            every_run = run_causal;
            same_answers = same_answers;
            applied_exactly = applied_exactly;
            puts_counted = puts_counted;
            anomalies = anomalies;
            schedule = λ t size. (history t size, causal t size);
            looking = history_looking;
            adopting = history_adopting;
            closing = history_closing;
            winning = history_winning;
          };
      outcomes =
          record {
            opens = open_no_second;
            puts = put_no_second;
            gets = get_no_second;
            looks = look_no_second;
            adopts = adopt_no_second;
            delivers = deliver_no_second;
            drains = drain_no_second;
            retires = retire_no_second;
            fc_retire = fc_retire_no_second;
            fc_open = fc_open_no_second;
            fc_put = fc_put_no_second;
            fc_get = fc_get_no_second;
            fc_look = fc_look_no_second;
            fc_adopt = fc_adopt_no_second;
            fc_deliver = fc_deliver_no_second;
            touches = touch_no_second;
            lists = cold_no_second;
            fc_touch = fc_touch_no_second;
            fc_cold = fc_cold_no_second;
            fc_drain = fc_drain_no_second;
            fc_short_put = fc_short_put_no_second;
            fc_short_get = fc_short_get_no_second;
            fc_short_adopt = fc_short_adopt_no_second;
            fc_short_touch = fc_short_touch_no_second;
            fc_short_deliver = fc_short_deliver_no_second;
            fc_short_drain = fc_short_drain_no_second;
            plays = play_no_second;
            written = written_no_second;
          };
      cases =
          record {
            starred = starred;
            at_bounds = at_bounds;
            which = which;
            how_many = how_many;
            touches = (touched_so, ten);
            records = (parts, forms, kinds, listed_so, words_first);
            looks = (looked_so, eight);
            ranks = (ranked_so, six_ranks);
            retirements = (retired_so, six);
            starred_short = starred_short;
            chains = (long_chain, short_chain);
            shorts = (short_so, five);
            fact_by_fact = fact_by_fact;
          };
      bytes =
          record {
            bytes_back = bytes_back;
            state_back = state_back;
            state_fits = state_fits;
            bytes_long = bytes_long;
            sizes = (the_widths, the_offsets);
            worked_table = (worked.long, worked.header, worked.applied, worked.depends, worked.entry, worked.update);
            worked_replies = (replies.reply, replies.put, replies.spent, replies.waits);
            wrong_reply = wrong_reply;
            wrong_table = wrong_table;
            size_exactly = size_exactly;
          };
      soundness = record { tested = sound_tested; accepted = accepted_sound; kept = keeps_sound };
      codes =
          record {
            listed = codes_listed;
            in_order = follows_order;
            given = given_exactly;
            accepted = accepted_exactly;
            spent = spent_exactly;
            keeps = refused_keeps;
            zeros = refused_zeros;
            missing = missing_named;
          };
      drain =
          record {
            delivers = drain_delivers;
            rises = drain_rises;
            ends = drain_ends;
            prefix = drain_prefix;
            within = tries_within;
            bounded = tries_bounded;
            pending = pending_bounded;
            enough = budget_enough;
          };
      looks =
          record {
            look_keeps = look_keeps;
            get_is_both = get_is_both;
            adopt_is_get = adopt_is_get;
            adopt_answers = adopt_answers;
            adopt_never = adopt_never;
            cold_keeps = cold_keeps;
          };
      touches =
          record {
            touch_back = touch_back;
            formed_exactly = formed_exactly;
            age_adds = age_adds;
            aged_exactly = aged_exactly;
            kind_exactly = kind_exactly;
            kinds_listed = kinds_listed;
            list_filled = list_filled;
            cold_answers = cold_answers;
            cold_hosts = cold_hosts;
            list_written = list_written;
            touched_says = touched_says;
            touch_is_both = touch_is_both;
            scan_keeps_coldness = scan_keeps_coldness;
          };
      listings = record { rest_ignored = rest_ignored; always_ends = always_ends };
    }
